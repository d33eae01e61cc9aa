-- Orders read word by word, after the members that were read before.
use Rattle.std.specs.Prelude.{ℕ, ◌+◌, List, [], ◌∷◌, ◌++◌, length, map, nat_lt, if◌then◌else◌, Option, Some, None, Result, Ok, Err}
use Rattle.stride_base.specs.declared.limits.TheConstants.{ORDER_LIMIT}
use Rattle.assembler.specs.Orders.{OrderWord, Repeated, members_of, repeated_of}
use Rattle.assembler.specs.Programs.{LineFault}
use Rattle.assembler.specs.declared.asm_error.AsmKind.TheVariants.{BadNumber, TooMany}

-- the order with the members that a word of this line adds
abbrev pub with_said : List ℕ → ℕ → Option Repeated → Result (List ℕ) LineFault
with_said order line None = Err (record { kind = BadNumber; line = line })
with_said order line (Some said) =
    if nat_lt ORDER_LIMIT (length order + said.times) then Err (record { kind = TooMany; line = line }) else Ok (order ++ members_of said)

abbrev pub with_word : List ℕ → OrderWord → Result (List ℕ) LineFault
with_word order w = with_said order w.line (repeated_of w.word)

-- a result where it is given, and what comes after it
abbrev pub and_then : {X Y E : Type 0} → Result X E → (X → Result Y E) → Result Y E
and_then (Ok x) next = next x
and_then (Err e) next = Err e

-- the order with the members that words add
abbrev pub with_words : List ℕ → List OrderWord → Result (List ℕ) LineFault
with_words order [] = Ok order
with_words order (w ∷ rest) = and_then (with_word order w) (λ more. with_words more rest)

-- the words of one line
abbrev pub line_words : ℕ → List (List ℕ) → List OrderWord
line_words number words = map (λ word. record { line = number; word = word }) words

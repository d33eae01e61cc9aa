-- Orders: the thread numbers that a schedule names one after another.
use Rattle.std.specs.Prelude.{ℕ, ◌+◌, ◌^◌, ◌==◌, List, [], ◌∷◌, ◌++◌, length, map, replicate, nat_lt, if◌then◌else◌, Option, Some, None, is_none, unwrap_or, Result, option_and_then}
use Rattle.std.specs.Option.{option_map}
use Rattle.std.specs.List.{flat_map}
use Rattle.stride_base.specs.declared.limits.TheConstants.{ORDER_LIMIT}
use Rattle.assembler.specs.Forms.{above_zero}
use Rattle.assembler.specs.Lines.{lines}
use Rattle.assembler.specs.Numbers.{number}
use Rattle.assembler.specs.Programs.{LineFault, or_else, unless_fault}
use Rattle.assembler.specs.Words.{words_of}
use Rattle.assembler.specs.declared.asm_error.AsmKind.{AsmKind}
use Rattle.assembler.specs.declared.asm_error.AsmKind.TheVariants.{BadNumber, TooMany}

-- a word before its first `*`, and what stands after that, if there is one
pub record Halves : Type 0 where
  pub front : List ℕ
  pub back : Option (List ℕ)

abbrev pub halves : List ℕ → Halves
halves [] = record { front = []; back = None }
halves (byte ∷ bytes) =
    let rest = halves bytes in
    if byte == 42 then record { front = []; back = Some bytes } else record { front = byte ∷ rest.front; back = rest.back }

-- how often a thread is named: once where no count is given, and otherwise as often as an order has members at most
abbrev pub times_of : Option (List ℕ) → Option ℕ
times_of None = Some 1
times_of (Some count) = option_and_then above_zero (number (ORDER_LIMIT + 1) count)

-- a thread number and how often it is named
pub record Repeated : Type 0 where
  pub thread : ℕ
  pub times : ℕ

-- what a word `t` or `t*n` says: the number t of 8 bits, once or n times; none for any other word
abbrev pub repeated_of : List ℕ → Option Repeated
repeated_of word =
    let parts = halves word in
    option_and_then (λ thread. option_map (λ times. record { thread = thread; times = times }) (times_of parts.back)) (number (2 ^ 8) parts.front)

-- the members that a word adds to an order
abbrev pub members_of : Repeated → List ℕ
members_of said = replicate said.times said.thread

-- a word of an order with the number of its line
pub record OrderWord : Type 0 where
  pub line : ℕ
  pub word : List ℕ

-- the words of lines, the first of which has this number
abbrev pub words_from_line : ℕ → List (List ℕ) → List OrderWord
words_from_line number [] = []
words_from_line number (line ∷ rest) = map (λ word. record { line = number; word = word }) (words_of line) ++ words_from_line (number + 1) rest

-- the members of words in a row; a word of another form has none
abbrev pub members_in : List OrderWord → List ℕ
members_in words = flat_map (λ w. unwrap_or (option_map members_of (repeated_of w.word)) []) words

-- what is wrong with a word after others: it is of another form, or the order has too many members with it
abbrev pub word_refusal : List OrderWord → OrderWord → Option AsmKind
word_refusal before w =
    if is_none (repeated_of w.word) then Some BadNumber else (if nat_lt ORDER_LIMIT (length (members_in (before ++ w ∷ []))) then Some TooMany else None)

-- the first word from a place on that is refused, after these words
abbrev pub first_word_fault : List OrderWord → List OrderWord → Option LineFault
first_word_fault before [] = None
first_word_fault before (w ∷ rest) =
    or_else (option_map (λ kind. record { kind = kind; line = w.line }) (word_refusal before w)) (first_word_fault (before ++ w ∷ []) rest)

-- the order that the words say, or the first fault
abbrev pub order_of : List OrderWord → Result (List ℕ) LineFault
order_of words = unless_fault (first_word_fault [] words) (members_in words)

-- the order that the text spells, whose first line has this number, or its first fault
abbrev pub order_spelled : ℕ → List ℕ → Result (List ℕ) LineFault
order_spelled first_line text = order_of (words_from_line first_line (lines text))

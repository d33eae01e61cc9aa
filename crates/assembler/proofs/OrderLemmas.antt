-- The steps of the loops that read an order, and what they make together.
use Rattle.std.proofs.Common.{◌≡◌, ◌≢◌, ℕ, ◌+◌, ◌-◌, ◌*◌, ◌<◌, ◌≤◌, Bool, true, false, ltb, List, [], ◌∷◌, ◌++◌, length, get_or, take, drop, Option, Some, None, Result, Ok, Err, refl, sym, append_assoc, arith, lt-ltb}
use Rattle.std.specs.Prelude.{if◌then◌else◌}
use Rattle.std.specs.Char.{is_ascii_digit}
use Rattle.std.specs.Option.{option_map}
use Rattle.std.proofs.lemmas.Bool.{ne_eqb}
use Rattle.std.proofs.lemmas.Bool.Decides.{nat_tests}
use Rattle.std.proofs.lemmas.Grind.{flat_map-append}
use Rattle.std.proofs.lemmas.List.{append-nil, take_more, drop_more, take_all, drop_all, length-append, length-replicate}
use Rattle.assembler.specs.Answers.{IsAnswer}
use Rattle.assembler.specs.Lines.{lines}
use Rattle.stride_base.specs.declared.limits.TheConstants.{ORDER_LIMIT}
use Rattle.assembler.specs.Orders.{Halves, OrderWord, Repeated, first_word_fault, halves, members_in, members_of, order_of, repeated_of, words_from_line}
use Rattle.assembler.specs.Programs.{LineFault, or_else, unless_fault}
use Rattle.assembler.specs.Words.{words_of}
use Rattle.assembler.specs.declared.asm_error.AsmError.{AsmError}
use Rattle.assembler.specs.declared.asm_error.AsmError.TheVariants.{Bad, NoMemory}
use Rattle.assembler.specs.declared.asm_error.AsmKind.TheVariants.{TooMany}
use Rattle.assembler.specs.OrderReading.{and_then, line_words, with_word, with_words}

-- the halves of a word, of whose front the first bytes were met
abbrev pub halves_from : List ℕ → ℕ → Halves
halves_from word i =
    let rest = halves (drop i word) in record { front = take i word ++ rest.front; back = rest.back }

pub halves_from-more : (word : List ℕ) (i : ℕ) → i < length word → get_or word i 0 ≢ 42 → halves_from word (i + 1) ≡ halves_from word i
halves_from-more word i inside other =
    let e = ne_eqb (get_or word i 0) 42 other in
    rw (take_more word i 0 inside, drop_more word i 0 inside, e, append_assoc) refl

pub halves_from-star : (word : List ℕ) (i : ℕ) → i < length word → get_or word i 0 ≡ 42 → halves_from word i ≡ record { front = take i word; back = Some (drop (i + 1) word) }
halves_from-star word i inside star = rw (drop_more word i 0 inside, star, append-nil) refl

pub halves_from-end : (word : List ℕ) (i : ℕ) → length word ≤ i → halves_from word i ≡ record { front = word; back = None }
halves_from-end word i end = rw (take_all i word end, drop_all i word end, append-nil) refl

pub ruleset star_steps = (halves_from-more, halves_from-star, halves_from-end)

-- a word of one digit names the thread of this number once
pub digit_run : (word : List ℕ) → length word ≡ 1 → 48 ≤ get_or word 0 0 → get_or word 0 0 ≤ 57 → repeated_of word ≡ Some (record { thread = get_or word 0 0 - 48; times = 1 })
digit_run [] one low high = absurd (omega arith)
digit_run (byte ∷ []) one low high =
    let digit : is_ascii_digit byte ≡ true = grind (arith, nat_tests) in
    let other = ne_eqb byte 42 (λ star. absurd (omega arith)) in
    let same : 0 * 10 + (byte - 48) ≡ byte - 48 = omega arith in
    let small = lt-ltb (byte - 48) 256 (omega arith) in
    rw (other, digit, same, small) refl
digit_run (byte ∷ next ∷ bytes) one low high = absurd (omega arith)

and_then_words : (first : Result (List ℕ) LineFault) (rest behind : List OrderWord) → ((more : List ℕ) → with_words more (rest ++ behind) ≡ and_then (with_words more rest) (λ more. with_words more behind)) → and_then first (λ more. with_words more (rest ++ behind)) ≡ and_then (and_then first (λ more. with_words more rest)) (λ more. with_words more behind)
and_then_words (Ok more) rest behind further = further more
and_then_words (Err fault) rest behind further = refl

with_words-append : (order : List ℕ) (words behind : List OrderWord) → with_words order (words ++ behind) ≡ and_then (with_words order words) (λ more. with_words more behind)
with_words-append order [] behind = refl
with_words-append order (w ∷ rest) behind =
    and_then_words (with_word order w) rest behind (λ more. with_words-append more rest behind)

-- one line is read
pub line_read : (order new : List ℕ) (number : ℕ) (line rest after : List ℕ) (whole : Result (List ℕ) LineFault) → lines rest ≡ line ∷ lines after → with_words order (words_from_line number (lines rest)) ≡ whole → with_words order (line_words number (words_of line)) ≡ Ok new → with_words new (words_from_line (number + 1) (lines after)) ≡ whole
line_read order new number line rest after whole split reading one =
    let from = rw (split, with_words-append order (line_words number (words_of line)) (words_from_line (number + 1) (lines after)), one) at reading in
    from

-- a line is refused, and so is the text
pub line_refused : {X Z : Type 0} (u : X → List ℕ) (v : Z → List ℕ) (error : AsmError) (order : List ℕ) (number : ℕ) (line rest after : List ℕ) (whole : Result (List ℕ) LineFault) → lines rest ≡ line ∷ lines after → with_words order (words_from_line number (lines rest)) ≡ whole → IsAnswer u (Err error) (with_words order (line_words number (words_of line))) → IsAnswer v (Err error) whole
line_refused u v (Bad kind at) order number line rest after whole split reading one =
    let from = rw (split, with_words-append order (line_words number (words_of line)) (words_from_line (number + 1) (lines after)), one) at reading in
    sym from
line_refused u v NoMemory order number line rest after whole split reading one = tt

-- what a reading from a place on gives, where the members of the words before are these
abbrev rest_of : List OrderWord → List OrderWord → Result (List ℕ) LineFault
rest_of before rest = unless_fault (first_word_fault before rest) (members_in (before ++ rest))

members_in-one : (before : List OrderWord) (w : OrderWord) (said : Repeated) → repeated_of w.word ≡ Some said → members_in (before ++ w ∷ []) ≡ members_in before ++ members_of said
members_in-one before w said e = rw (flat_map-append, e, append-nil) refl

-- one word, by whether the members are too many with it
read_if : (over : Bool) (line : ℕ) (fault : Option LineFault) (whole new : List ℕ) (rest : List OrderWord) → unless_fault fault whole ≡ with_words new rest → unless_fault (or_else (option_map (λ kind. record { kind = kind; line = line }) (if over then Some TooMany else None)) fault) whole ≡ and_then (if over then Err (record { kind = TooMany; line = line }) else Ok new) (λ more. with_words more rest)
read_if true line fault whole new rest further = refl
read_if false line fault whole new rest further = further

-- one word, by what it says
read_said : (before rest : List OrderWord) (w : OrderWord) (said : Option Repeated) → repeated_of w.word ≡ said → rest_of (before ++ w ∷ []) rest ≡ with_words (members_in (before ++ w ∷ [])) rest → rest_of before (w ∷ rest) ≡ with_words (members_in before) (w ∷ rest)
read_said before rest w None e further = rw e refl
read_said before rest w (Some said) e further =
    let one = members_in-one before w said e in
    let long : length (members_in (before ++ w ∷ [])) ≡ length (members_in before) + said.times = rw one (simp (length-append, length-replicate)) in
    rw (e, long) (read_if (ltb ORDER_LIMIT (length (members_in before) + said.times)) w.line _ _ (members_in before ++ members_of said) rest (rw (append_assoc before, one) at further))

-- the words from a place on are read after the members of the words before as they are read one after another
rest_of-read : (before rest : List OrderWord) → rest_of before rest ≡ with_words (members_in before) rest
rest_of-read before [] = rw (append-nil before) refl
rest_of-read before (w ∷ rest) = read_said before rest w (repeated_of w.word) refl (rest_of-read (before ++ w ∷ []) rest)

pub order_of-read : (words : List OrderWord) → order_of words ≡ with_words [] words
order_of-read words = rest_of-read [] words

pub ruleset line_steps = (line_read, order_of-read)

-- The steps of the loops that find a comment and a word.
use Rattle.std.proofs.Common.{◌≡◌, ℕ, ◌+◌, ◌<◌, ◌≤◌, ◌==◌, zero, suc, List, [], ◌∷◌, ◌++◌, length, get_or, take, drop, true, false, refl, sym, ap, arith, append_assoc}
use Rattle.std.proofs.lemmas.Bool.{false_from_ne_true}
use Rattle.std.proofs.lemmas.List.{take_more, drop_more, take_all, drop_all, append-nil}
use Rattle.assembler.specs.Words.{is_blank, uncommented, Front, front_of, with_word, plain_words}

-- a line is cut at its first `#`
pub uncommented-at : (line : List ℕ) (i : ℕ) → i < length line → ((k : ℕ) → 0 ≤ k → k < i → (get_or line k 0 == 35) ≡ true → ⊥) → (get_or line i 0 == 35) ≡ true → take i line ≡ uncommented line
uncommented-at [] i inside before hash = absurd (omega arith)
uncommented-at (byte ∷ bytes) zero inside before hash = rw hash refl
uncommented-at (byte ∷ bytes) (suc i) inside before hash =
    let other = false_from_ne_true (byte == 35) (before 0 (omega arith) (omega arith)) in
    rw other (ap (λ bs. byte ∷ bs) (uncommented-at bytes i (omega arith) (λ k low lt. before (suc k) (omega arith) (omega arith)) hash))

-- and not at all where there is none
pub uncommented-none : (line : List ℕ) → ((k : ℕ) → 0 ≤ k → k < length line → (get_or line k 0 == 35) ≡ true → ⊥) → line ≡ uncommented line
uncommented-none [] none = refl
uncommented-none (byte ∷ bytes) none =
    let other = false_from_ne_true (byte == 35) (none 0 (omega arith) (omega arith)) in
    rw other (ap (λ bs. byte ∷ bs) (uncommented-none bytes (λ k low lt. none (suc k) (omega arith) (omega arith))))

-- a blank in front adds no word
pub plain_words-blank : (line : List ℕ) (i : ℕ) → i < length line → is_blank (get_or line i 0) ≡ true → plain_words (drop (i + 1) line) ≡ plain_words (drop i line)
plain_words-blank line i inside blank = rw (drop_more line i 0 inside, blank) refl

pub plain_words-all : (line : List ℕ) (i : ℕ) → length line ≤ i → plain_words (drop i line) ≡ []
plain_words-all line i end = rw (drop_all i line end) refl

pub ruleset blank_steps = (plain_words-blank, plain_words-all)

-- the first bytes and the word at the front of the rest
abbrev pub word_from : List ℕ → ℕ → List ℕ
word_from line i = take i line ++ (front_of (drop i line)).word

abbrev pub behind_from : List ℕ → ℕ → List (List ℕ)
behind_from line i = (front_of (drop i line)).behind

pub word_from-more : (line : List ℕ) (i : ℕ) → i < length line → is_blank (get_or line i 0) ≡ false → word_from line (i + 1) ≡ word_from line i
word_from-more line i inside other = rw (take_more line i 0 inside, drop_more line i 0 inside, other, append_assoc) refl

front_of-more : (line : List ℕ) (i : ℕ) → i < length line → is_blank (get_or line i 0) ≡ false → front_of (drop i line) ≡ record { word = get_or line i 0 ∷ (front_of (drop (i + 1) line)).word; behind = (front_of (drop (i + 1) line)).behind }
front_of-more line i inside other = rw (drop_more line i 0 inside, other) refl

front_of-end : (line : List ℕ) (i : ℕ) → i < length line → is_blank (get_or line i 0) ≡ true → front_of (drop i line) ≡ record { word = []; behind = plain_words (drop (i + 1) line) }
front_of-end line i inside blank = rw (drop_more line i 0 inside, blank) refl

front_of-all : (line : List ℕ) (i : ℕ) → length line ≤ i → front_of (drop i line) ≡ record { word = []; behind = [] }
front_of-all line i end = rw (drop_all i line end) refl

pub behind_from-more : (line : List ℕ) (i : ℕ) → i < length line → is_blank (get_or line i 0) ≡ false → behind_from line (i + 1) ≡ behind_from line i
behind_from-more line i inside other = ap (λ (f : Front). f.behind) (sym (front_of-more line i inside other))

pub word_from-end : (line : List ℕ) (i : ℕ) → i < length line → is_blank (get_or line i 0) ≡ true → word_from line i ≡ take i line
word_from-end line i inside blank = rw (drop_more line i 0 inside, blank, append-nil) refl

pub behind_from-end : (line : List ℕ) (i : ℕ) → i < length line → is_blank (get_or line i 0) ≡ true → behind_from line i ≡ plain_words (drop (i + 1) line)
behind_from-end line i inside blank = ap (λ (f : Front). f.behind) (front_of-end line i inside blank)

pub word_from-all : (line : List ℕ) (i : ℕ) → length line ≤ i → word_from line i ≡ line
word_from-all line i end = rw (take_all i line end, drop_all i line end, append-nil) refl

pub behind_from-all : (line : List ℕ) (i : ℕ) → length line ≤ i → behind_from line i ≡ []
behind_from-all line i end = ap (λ (f : Front). f.behind) (front_of-all line i end)

pub ruleset word_steps = (word_from-more, behind_from-more, word_from-end, behind_from-end, word_from-all, behind_from-all)

-- a line that begins with no blank has a word there
pub front_of-some : (line : List ℕ) → 0 < length line → is_blank (get_or line 0 0) ≡ false → 0 < length (front_of line).word
front_of-some [] some other = absurd (omega arith)
front_of-some (byte ∷ bytes) some other = rw other (omega arith)

with_word-some : (word : List ℕ) (words : List (List ℕ)) → 0 < length word → with_word word words ≡ word ∷ words
with_word-some [] words some = absurd (omega arith)
with_word-some (byte ∷ bytes) words some = refl

pub plain_words-some : (line : List ℕ) → 0 < length line → is_blank (get_or line 0 0) ≡ false → plain_words line ≡ (front_of line).word ∷ (front_of line).behind
plain_words-some line some other = with_word-some _ _ (front_of-some line some other)

pub ruleset word_facts = (front_of-some, plain_words-some)

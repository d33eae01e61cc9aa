-- Different words have different places.
use Rattle.std.proofs.Common.{◌≡◌, ℕ, ◌+◌, ◌*◌, ◌/◌, ◌%◌, ◌-◌, ◌==◌, ◌<◌, ◌∙◌, Bool, true, false, if◌then◌else◌, List, length, inl, inr, refl, sym, ap, arith, get_or, set}
use Rattle.std.specs.Prelude.{nat_le}
use Rattle.std.proofs.lemmas.Bool.{ne_eqb}
use Rattle.std.proofs.lemmas.Bool.Decides.{eqb_tells}
use Rattle.std.proofs.lemmas.List.{get_or-set_same, get_or-set_other}
use Rattle.interleavings.specs.AtomicStep.{SharedWord, Drawn, Value, Number, Monitor}
use Rattle.interleavings.specs.History.{same_word, put_word}
use Rattle.shared_rule.specs.Lines.{index_of, width, IsThere, word_in_line, word_at}

-- the word in this line at this place
abbrev in_line : ℕ → ℕ → SharedWord
in_line line offset = word_in_line (line == 0) (nat_le line 64) (offset == 0) line

line_is : (line offset : ℕ) → offset < 16 → (16 * line + offset) / 16 ≡ line
line_is line offset small = omega arith

offset_is : (line offset : ℕ) → offset < 16 → (16 * line + offset) % 16 ≡ offset
offset_is line offset small = omega arith

monitor_line : (monitor : ℕ) → monitor < 64 → in_line (monitor + 1) 0 ≡ Monitor monitor
monitor_line monitor there =
    let first : (monitor + 1 == 0) ≡ false = ne_eqb (monitor + 1) 0 (λ e. omega arith) in
    let few : nat_le (monitor + 1) 64 ≡ true = grind arith in
    let back : monitor + 1 - 1 ≡ monitor = omega arith in
    rw (first, few) (ap Monitor back)

cell_line : (cell offset : ℕ) → in_line (cell + 64 + 1) offset ≡ word_in_line false false (offset == 0) (cell + 64 + 1)
cell_line cell offset =
    let first : (cell + 64 + 1 == 0) ≡ false = ne_eqb (cell + 64 + 1) 0 (λ e. omega arith) in
    let many : nat_le (cell + 64 + 1) 64 ≡ false = grind arith in
    rw (first, many) refl

-- a word is told by its place
pub decoded : (cells : ℕ) (word : SharedWord) → IsThere cells word → word_at (index_of word) ≡ word
decoded cells Drawn there = refl
decoded cells (Monitor monitor) there =
    ap (λ line. in_line line ((16 * (monitor + 1) + 0) % 16)) (line_is (monitor + 1) 0 (omega arith))
    ∙ ap (λ offset. in_line (monitor + 1) offset) (offset_is (monitor + 1) 0 (omega arith))
    ∙ monitor_line monitor there
decoded cells (Value cell) there =
    let back : cell + 64 + 1 - (64 + 1) ≡ cell = omega arith in
    ap (λ line. in_line line ((16 * (cell + 64 + 1) + 0) % 16)) (line_is (cell + 64 + 1) 0 (omega arith))
    ∙ ap (λ offset. in_line (cell + 64 + 1) offset) (offset_is (cell + 64 + 1) 0 (omega arith))
    ∙ cell_line cell 0
    ∙ ap Value back
decoded cells (Number cell) there =
    let back : cell + 64 + 1 - (64 + 1) ≡ cell = omega arith in
    ap (λ line. in_line line ((16 * (cell + 64 + 1) + 1) % 16)) (line_is (cell + 64 + 1) 1 (omega arith))
    ∙ ap (λ offset. in_line (cell + 64 + 1) offset) (offset_is (cell + 64 + 1) 1 (omega arith))
    ∙ cell_line cell 1
    ∙ ap Number back

-- the place is one of those that there are
pub index_inside : (cells : ℕ) (word : SharedWord) → IsThere cells word → index_of word < width cells
index_inside cells Drawn there = omega arith
index_inside cells (Monitor monitor) there = omega arith
index_inside cells (Value cell) there = omega arith
index_inside cells (Number cell) there = omega arith

pub same_word_self : (word : SharedWord) → same_word word word ≡ true
same_word_self Drawn = refl
same_word_self (Value cell) = grind arith
same_word_self (Number cell) = grind arith
same_word_self (Monitor monitor) = grind arith

same_word_tells : (word other : SharedWord) → same_word word other ≡ true → word ≡ other
same_word_tells Drawn Drawn e = refl
same_word_tells (Value cell) (Value other) e = ap Value (grind (arith, e))
same_word_tells (Number cell) (Number other) e = ap Number (grind (arith, e))
same_word_tells (Monitor monitor) (Monitor other) e = ap Monitor (grind (arith, e))
same_word_tells word other e = cc

not_true : (b : Bool) → (b ≡ true → ⊥) → b ≡ false
not_true true f = absurd (f refl)
not_true false f = refl

-- words that are those of a state are those of the state with another value of one of them, where that value is put
pub words_put : (cells : ℕ) (words : List ℕ) (shared : SharedWord → ℕ) (touched : SharedWord) (value : ℕ) → length words ≡ width cells → IsThere cells touched → ((word : SharedWord) → IsThere cells word → get_or words (index_of word) 0 ≡ shared word) → (word : SharedWord) → IsThere cells word → get_or (set words (index_of touched) value) (index_of word) 0 ≡ put_word shared touched value word
words_put cells words shared touched value long inside shows word within = elim (eqb_tells (index_of word) (index_of touched)) [
  | inl same ↦
      let e : word ≡ touched = sym (decoded cells word within) ∙ ap word_at same.1 ∙ decoded cells touched inside in
      ap (λ i. get_or (set words (index_of touched) value) i 0) same.1
      ∙ get_or-set_same words (index_of touched) value 0 (omega (arith, index_inside cells touched inside))
      ∙ ap (λ b. if b then value else shared word) (sym (ap (λ w. same_word w touched) e ∙ same_word_self touched))
  | inr other ↦
      get_or-set_other words (index_of touched) (index_of word) value 0 other.1
      ∙ shows word within
      ∙ ap (λ b. if b then value else shared word) (sym (not_true (same_word word touched) (λ e. other.1 (ap index_of (same_word_tells word touched e)))))
]

-- Different words have different places in the row.
use Rattle.std.proofs.Common.{◌≡◌, ℕ, ◌<◌, ◌∙◌, Bool, true, false, if◌then◌else◌, List, length, inl, inr, refl, sym, ap, arith, get_or, set}
use Rattle.std.proofs.lemmas.Bool.Decides.{eqb_tells}
use Rattle.std.proofs.lemmas.List.{get_or-set_same, get_or-set_other}
use Rattle.interleavings.specs.AtomicStep.{SharedWord, Drawn, Value, Number, Monitor}
use Rattle.interleavings.specs.History.{same_word, put_word}
use Rattle.interleavings.specs.Layout.{index_of, row_length, IsInRow}
use Rattle.interleavings.proofs.Within.{same_word_tells}

pub index_tells : (cells monitors : ℕ) (word other : SharedWord) → IsInRow cells monitors word → IsInRow cells monitors other → index_of cells word ≡ index_of cells other → word ≡ other
index_tells cells monitors Drawn Drawn i j e = refl
index_tells cells monitors (Value cell) (Value other) i j e = let same : cell ≡ other = omega arith in ap Value same
index_tells cells monitors (Number cell) (Number other) i j e = let same : cell ≡ other = omega arith in ap Number same
index_tells cells monitors (Monitor monitor) (Monitor other) i j e = let same : monitor ≡ other = omega arith in ap Monitor same
index_tells cells monitors word other i j e = absurd (omega arith)

-- a word of the row has its place in it
pub index_inside : (cells monitors : ℕ) (word : SharedWord) → IsInRow cells monitors word → index_of cells word < row_length cells monitors
index_inside cells monitors Drawn i = omega arith
index_inside cells monitors (Value cell) i = omega arith
index_inside cells monitors (Number cell) i = omega arith
index_inside cells monitors (Monitor monitor) i = omega arith

same_word_self : (word : SharedWord) → same_word word word ≡ true
same_word_self Drawn = refl
same_word_self (Value cell) = grind arith
same_word_self (Number cell) = grind arith
same_word_self (Monitor monitor) = grind arith

not_true : (b : Bool) → (b ≡ true → ⊥) → b ≡ false
not_true true f = absurd (f refl)
not_true false f = refl

-- a row that shows these words shows them with another value of one of them, where that value is put
pub row_put : (cells monitors : ℕ) (row : List ℕ) (words : SharedWord → ℕ) (touched : SharedWord) (value : ℕ) → length row ≡ row_length cells monitors → IsInRow cells monitors touched → ((word : SharedWord) → IsInRow cells monitors word → get_or row (index_of cells word) 0 ≡ words word) → (word : SharedWord) → IsInRow cells monitors word → get_or (set row (index_of cells touched) value) (index_of cells word) 0 ≡ put_word words touched value word
row_put cells monitors row words touched value long inside shows word within = elim (eqb_tells (index_of cells word) (index_of cells touched)) [
  | inl same ↦
      let e : word ≡ touched = index_tells cells monitors word touched within inside same.1 in
      ap (λ i. get_or (set row (index_of cells touched) value) i 0) same.1
      ∙ get_or-set_same row (index_of cells touched) value 0 (omega (arith, index_inside cells monitors touched inside))
      ∙ ap (λ b. if b then value else words word) (sym (ap (λ w. same_word w touched) e ∙ same_word_self touched))
  | inr other ↦
      get_or-set_other row (index_of cells touched) (index_of cells word) value 0 other.1
      ∙ shows word within
      ∙ ap (λ b. if b then value else words word) (sym (not_true (same_word word touched) (λ e. other.1 (ap (index_of cells) (same_word_tells word touched e)))))
]

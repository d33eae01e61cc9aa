-- What is the case or not, of words and numbers.
use Rattle.std.proofs.Common.{◌≡◌, ◌⊎◌, ◌<◌, ◌≤◌, ℕ, Bool, true, false, List, [], ◌∷◌, inl, inr, refl, sym, subst, length, arith}
use Rattle.std.proofs.lemmas.Bool.{cases_lt}
use Rattle.std.proofs.lemmas.Slice.Eq.{bytes_eq-Decides}
use Rattle.std.specs.Char.{digit_value}
use Rattle.std.specs.Str.{bytes_eq}
use Rattle.std.specs.Str.Parse.{AllDigits, digits_value}
use Rattle.command_words.specs.Words.{IsDecimal, Word}

-- it is the case or not
abbrev pub Known : Type 0 → Type 0
Known P = P ⊎ (P → ⊥)

-- both are, or not
pub known_both : {P Q : Type 0} → Known P → Known Q → Known (P × Q)
known_both (inl p) (inl q) = inl (p, q)
known_both (inl p) (inr never) = inr (λ both. never both.1)
known_both (inr never) other = inr (λ both. never both.0)

-- and what comes to the same
pub known_as : {P Q : Type 0} → (P → Q) → (Q → P) → Known P → Known Q
known_as there back (inl p) = inl (there p)
known_as there back (inr never) = inr (λ q. never (back q))

pub known_less : (a b : ℕ) → Known (a < b)
known_less a b = elim (cases_lt a b) [
  | inl less ↦ inl less
  | inr most ↦ inr (λ less. absurd (omega arith))
]

pub known_most : (a b : ℕ) → Known (a ≤ b)
known_most a b = elim (cases_lt b a) [
  | inl less ↦ inr (λ most. absurd (omega arith))
  | inr most ↦ inl most
]

pub known_equal : (one other : Word) → Known (one ≡ other)
known_equal one other = go (bytes_eq one other) refl
  where
    go : (b : Bool) → bytes_eq one other ≡ b → Known (one ≡ other)
    go true is = inl ((bytes_eq-Decides one other).0 is)
    go false is = inr (λ same. let equal = (bytes_eq-Decides one other).1 same in absurd (cc))

-- a list is one word alone, or not
pub known_alone : (words : List Word) (name : Word) → Known (words ≡ name ∷ [])
known_alone [] name = inr (λ is. absurd (cc))
known_alone (word ∷ []) name = known_as (λ is. rw is refl) (λ is. cc) (known_equal word name)
known_alone (one ∷ two ∷ words) name = inr (λ is. absurd (cc))

known_digits : (word : Word) → Known (AllDigits 10 word)
known_digits [] = inl tt
known_digits (byte ∷ bytes) = known_both (known_less (digit_value byte) 10) (known_digits bytes)

-- the word is a decimal of a value of which `Fits` is known, or not
pub known_decimal : (Fits : ℕ → Type 0) → ((n : ℕ) → Known (Fits n)) → (word : Word) → Known ((n : ℕ) × IsDecimal word n × Fits n)
known_decimal Fits known word =
    known_as (λ h. (digits_value 10 word, ((h.0.0, h.0.1), refl), h.1)) (λ h. ((h.1.0.0, h.1.0.1), subst Fits (sym h.1.1) h.2))
    (known_both (known_both (known_less 0 (length word)) (known_digits word)) (known (digits_value 10 word)))

-- What is the case or not, and the least and the greatest number where it is.
use Rattle.std.proofs.Common.{◌≡◌, ℕ, zero, suc, ◌<◌, ◌⊎◌, subst, inl, inr, arith}
use Rattle.std.proofs.lemmas.Bool.{cases_lt}

-- it is the case or not
abbrev pub Known : Type 0 → Type 0
Known P = P ⊎ (P → ⊥)

-- both are, or not
pub known_both : {P Q : Type 0} → Known P → Known Q → Known (P × Q)
known_both (inl p) (inl q) = inl (p, q)
known_both (inl p) (inr never) = inr (λ both. never both.1)
known_both (inr never) other = inr (λ both. never both.0)

-- and what comes to the same
pub known_as : {P Q : Type 0} → (P → Q) → (Q → P) → Known P → Known Q
known_as there back (inl p) = inl (there p)
known_as there back (inr never) = inr (λ q. never (back q))

module _ (P : ℕ → Type 0) where
  -- the number is the least of which it is the case
  pub record IsLeastNumber (number : ℕ) : Type 0 where
    pub holds : P number
    pub none : (other : ℕ) → other < number → P other → ⊥

  module _ (known : (i : ℕ) → Known (P i)) where
    -- below a bound there is a least number, or none
    pub least_below : (n : ℕ) → ((i : ℕ) × (i < n) × IsLeastNumber i) ⊎ ((i : ℕ) → i < n → P i → ⊥)
    least_below zero = inr (λ i small. absurd (omega arith))
    least_below (suc n) = elim (least_below n) [
      | inl found ↦ inl (found.0, (let small = found.1 in omega arith), found.2)
      | inr none ↦ elim (known n) [
        | inl holds ↦ inl (n, omega arith, record { holds = holds; none = none })
        | inr never ↦ inr (λ i small is. elim (cases_lt i n) [
          | inl before ↦ none i before is
          | inr last ↦ never (let here : i ≡ n = omega arith in subst P here is)
        ])
      ]
    ]

    -- the least number, where each is below a bound, or none
    pub least_under : (most : ℕ) → ((i : ℕ) → P i → i < most) → ((i : ℕ) × IsLeastNumber i) ⊎ ((i : ℕ) → P i → ⊥)
    least_under most under = elim (least_below most) [
      | inl found ↦ inl (found.0, found.2)
      | inr none ↦ inr (λ i is. none i (under i is) is)
    ]

    -- such a least number is there or not
    pub known_least : (most : ℕ) → ((i : ℕ) → P i → i < most) → Known ((i : ℕ) × IsLeastNumber i)
    known_least most under = elim (least_under most under) [ inl least ↦ inl least | inr none ↦ inr (λ least. none least.0 least.1.holds) ]

    -- where there is one there is a least
    pub some_least : (most : ℕ) → ((i : ℕ) → P i → i < most) → (i : ℕ) → P i → (j : ℕ) × IsLeastNumber j
    some_least most under i is = elim (least_under most under) [ inl least ↦ least | inr none ↦ absurd (none i is) ]

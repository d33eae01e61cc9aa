-- What is the case or not, and the least and the greatest number where it is.
use Rattle.std.proofs.Common.{◌≡◌, ℕ, zero, suc, ◌<◌, ◌≤◌, ◌⊎◌, Option, Some, None, refl, ap, subst, inl, inr, arith}
use Rattle.std.proofs.lemmas.Bool.{cases_eq, cases_lt}

-- it is the case or not
abbrev pub Known : Type 0 → Type 0
Known P = P ⊎ (P → ⊥)

-- it isn't, or it is
pub known_not : {P : Type 0} → Known P → Known (P → ⊥)
known_not (inl p) = inr (λ never. never p)
known_not (inr never) = inl never

-- both are, or not
pub known_both : {P Q : Type 0} → Known P → Known Q → Known (P × Q)
known_both (inl p) (inl q) = inl (p, q)
known_both (inl p) (inr never) = inr (λ both. never both.1)
known_both (inr never) other = inr (λ both. never both.0)

-- and what comes to the same
pub known_as : {P Q : Type 0} → (P → Q) → (Q → P) → Known P → Known Q
known_as there back (inl p) = inl (there p)
known_as there back (inr never) = inr (λ q. never (back q))

-- a number is below another or not
pub known_less : (a b : ℕ) → Known (a < b)
known_less a b = elim (cases_lt a b) [ inl less ↦ inl less | inr most ↦ inr (λ less. omega arith) ]

-- and at most it or not
pub known_most : (a b : ℕ) → Known (a ≤ b)
known_most a b = elim (cases_lt b a) [ inl less ↦ inr (λ most. omega arith) | inr most ↦ inl most ]

-- something is there or not
pub known_some : {X : Type 0} (found : Option X) → Known ((x : X) × (found ≡ Some x))
known_some None = inr (λ some. absurd (let is = some.1 in cc))
known_some (Some x) = inl (x, refl)

-- it is this number or not
pub known_value : (found : Option ℕ) (value : ℕ) → Known (found ≡ Some value)
known_value None value = inr (λ is. absurd cc)
known_value (Some other) value = known_as (λ same. ap Some same) (λ same. cc) (cases_eq other value)

module _ (P : ℕ → Type 0) where
  -- the number is the least of which it is the case
  pub record IsLeastNumber (number : ℕ) : Type 0 where
    pub holds : P number
    pub none : (other : ℕ) → other < number → P other → ⊥

  -- the number is the greatest within a bound of which it is the case
  pub record IsGreatestWithin (bound number : ℕ) : Type 0 where
    pub within : number ≤ bound
    pub holds : P number
    pub greatest : (other : ℕ) → other ≤ bound → P other → other ≤ number

  module _ (known : (i : ℕ) → Known (P i)) where
    -- below a bound there is a least number, or none
    pub least_below : (n : ℕ) → ((i : ℕ) × (i < n) × IsLeastNumber i) ⊎ ((i : ℕ) → i < n → P i → ⊥)
    least_below zero = inr (λ i small. absurd (omega arith))
    least_below (suc n) = elim (least_below n) [
      | inl found ↦ inl (found.0, (let small = found.1 in omega arith), found.2)
      | inr none ↦ elim (known n) [
        | inl holds ↦ inl (n, omega arith, record { holds = holds; none = none })
        | inr never ↦ inr (λ i small is. elim (cases_lt i n) [
          | inl before ↦ none i before is
          | inr last ↦ never (let here : i ≡ n = omega arith in subst P here is)
        ])
      ]
    ]

    -- a number below a bound, or none
    pub known_below : (n : ℕ) → Known ((i : ℕ) × (i < n) × P i)
    known_below n = elim (least_below n) [
      | inl found ↦ inl (found.0, found.1, found.2.holds)
      | inr none ↦ inr (λ some. none some.0 some.1 some.2)
    ]

    -- the least number, where each is below a bound, or none
    pub least_under : (most : ℕ) → ((i : ℕ) → P i → i < most) → ((i : ℕ) × IsLeastNumber i) ⊎ ((i : ℕ) → P i → ⊥)
    least_under most under = elim (least_below most) [
      | inl found ↦ inl (found.0, found.2)
      | inr none ↦ inr (λ i is. none i (under i is) is)
    ]

    -- such a least number is there or not
    pub known_least : (most : ℕ) → ((i : ℕ) → P i → i < most) → Known ((i : ℕ) × IsLeastNumber i)
    known_least most under = elim (least_under most under) [ inl least ↦ inl least | inr none ↦ inr (λ least. none least.0 least.1.holds) ]

    -- where there is one there is a least
    pub some_least : (most : ℕ) → ((i : ℕ) → P i → i < most) → (i : ℕ) → P i → (j : ℕ) × IsLeastNumber j
    some_least most under i is = elim (least_under most under) [ inl least ↦ least | inr none ↦ absurd (none i is) ]

    -- within a bound there is a greatest number, or none
    pub greatest_within : (n : ℕ) → ((i : ℕ) × IsGreatestWithin n i) ⊎ ((i : ℕ) → i ≤ n → P i → ⊥)
    greatest_within zero = elim (known 0) [
      | inl holds ↦ inl (0, record { within = omega arith; holds = holds; greatest = λ other small is. small })
      | inr never ↦ inr (λ i small is. never (let here : i ≡ 0 = omega arith in subst P here is))
    ]
    greatest_within (suc n) = elim (known (suc n)) [
      | inl holds ↦ inl (suc n, record { within = omega arith; holds = holds; greatest = λ other small is. small })
      | inr never ↦ elim (greatest_within n) [
        | inl found ↦ inl (
          found.0,
          record {
            within = (let within = found.1.within in omega arith);
            holds = found.1.holds;
            greatest = λ other small is. found.1.greatest other (lesser n other never small is) is;
          },
        )
        | inr none ↦ inr (λ i small is. none i (lesser n i never small is) is)
      ]
    ]
      where
        lesser : (n i : ℕ) → (P (suc n) → ⊥) → i ≤ suc n → P i → i ≤ n
        lesser n i never small is = elim (cases_lt n i) [
          | inr below ↦ below
          | inl last ↦ absurd (never (let here : i ≡ suc n = omega arith in subst P here is))
        ]

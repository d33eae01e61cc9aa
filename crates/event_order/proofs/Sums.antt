-- Sums over numbers below a bound.
use Rattle.std.proofs.Common.{◌≡◌, ◌≢◌, ℕ, zero, suc, ◌+◌, ◌*◌, ◌<◌, ◌≤◌, refl, ap, inl, inr, arith}
use Rattle.std.proofs.lemmas.Bool.{cases_eq, cases_lt}
use Rattle.event_order.specs.Sums.{upto}

-- equal terms have equal sums
pub upto_same : (f g : ℕ → ℕ) (n : ℕ) → ((i : ℕ) → i < n → f i ≡ g i) → upto f n ≡ upto g n
upto_same f g zero same = refl
upto_same f g (suc n) same =
    let rest : upto f n ≡ upto g n = upto_same f g n (λ i small. same i (omega arith)) in
    let last : f n ≡ g n = same n (omega arith) in
    omega arith

-- smaller terms have a smaller sum
pub upto_le : (f g : ℕ → ℕ) (n : ℕ) → ((i : ℕ) → i < n → f i ≤ g i) → upto f n ≤ upto g n
upto_le f g zero small = omega arith
upto_le f g (suc n) small =
    let rest : upto f n ≤ upto g n = upto_le f g n (λ i less. small i (omega arith)) in
    let last : f n ≤ g n = small n (omega arith) in
    omega arith

-- and one that is strictly smaller makes the sum so
pub upto_less : (f g : ℕ → ℕ) (n j : ℕ) → j < n → ((i : ℕ) → i < n → f i ≤ g i) → f j < g j → upto f n < upto g n
upto_less f g zero j there small less = absurd (omega arith)
upto_less f g (suc n) j there small less = elim (cases_eq j n) [
  | inl last ↦
      let rest : upto f n ≤ upto g n = upto_le f g n (λ i below. small i (omega arith)) in
      let at_f : f j ≡ f n = ap f last in
      let at_g : g j ≡ g n = ap g last in
      omega arith
  | inr before ↦
      let inside : j < n = omega (arith, below n j there before) in
      let rest : upto f n < upto g n = upto_less f g n j inside (λ i below. small i (omega arith)) less in
      let last : f n ≤ g n = small n (omega arith) in
      omega arith
]
  where
    below : (n j : ℕ) → j < suc n → (j ≡ n → ⊥) → j < n
    below n j there apart = elim (cases_lt j n) [
      | inl less ↦ less
      | inr more ↦ absurd (apart (omega arith))
    ]

-- where one term alone changes, the sums differ as the terms do
pub upto_one : (f g : ℕ → ℕ) (n j : ℕ) → j < n → ((i : ℕ) → i ≢ j → f i ≡ g i) → upto f n + g j ≡ upto g n + f j
upto_one f g zero j there same = absurd (omega arith)
upto_one f g (suc n) j there same = elim (cases_eq n j) [
  | inl last ↦
      let rest : upto f n ≡ upto g n = upto_same f g n (λ i small. same i (λ e. absurd (omega arith))) in
      let at_f : f n ≡ f j = ap f last in
      let at_g : g n ≡ g j = ap g last in
      omega arith
  | inr before ↦
      let inside : j < n = inner n j there before in
      let rest : upto f n + g j ≡ upto g n + f j = upto_one f g n j inside same in
      let last : f n ≡ g n = same n before in
      omega arith
]
  where
    inner : (n j : ℕ) → j < suc n → (n ≡ j → ⊥) → j < n
    inner n j there apart = elim (cases_lt j n) [
      | inl less ↦ less
      | inr more ↦ absurd (apart (omega arith))
    ]

-- a sum of 0 has terms of 0
pub upto_zero : (f : ℕ → ℕ) (n i : ℕ) → upto f n ≡ 0 → i < n → f i ≡ 0
upto_zero f zero i none small = absurd (omega arith)
upto_zero f (suc n) i none small = elim (cases_lt i n) [
  | inl before ↦ upto_zero f n i (omega arith) before
  | inr last ↦ let here : f i ≡ f n = ap f (omega arith) in omega arith
]

-- a sum above 0 has a term above 0
pub upto_some : (f : ℕ → ℕ) (n : ℕ) → 0 < upto f n → (i : ℕ) × (i < n) × (0 < f i)
upto_some f zero some = absurd (omega arith)
upto_some f (suc n) some = elim (cases_lt 0 (f n)) [
  | inl last ↦ (n, omega arith, last)
  | inr none ↦ let found = upto_some f n (omega arith) in (found.0, (let small = found.1 in omega arith), found.2)
]

-- a sum of bounded terms is bounded
pub upto_most : (f : ℕ → ℕ) (n most : ℕ) → ((i : ℕ) → i < n → f i ≤ most) → upto f n ≤ n * most
upto_most f zero most small = omega arith
upto_most f (suc n) most small =
    let rest : upto f n ≤ n * most = upto_most f n most (λ i below. small i (omega arith)) in
    let last : f n ≤ most = small n (omega arith) in
    omega arith

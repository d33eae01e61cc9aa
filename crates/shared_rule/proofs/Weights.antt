-- Weighing the names in views.
use Rattle.std.proofs.Common.{◌≡◌, ◌≢◌, ℕ, zero, suc, ◌+◌, ◌==◌, ◌≤◌, ◌∙◌, if◌then◌else◌, List, [], ◌∷◌, sum_by, Some, refl, sym, ap, inl, inr, arith, set}
use Rattle.std.proofs.lemmas.Bool.{eq-eqb, ne_eqb, cases_eq}
use Rattle.std.proofs.lemmas.List.Sums.{sum_by-cons}
use mathlib.Core.Option.{some, some-injective, some-ne-none}
use lib.ListN.{get_elem?}
use Rattle.shared_rule.specs.declared.view.View.{View}
use Rattle.shared_rule.specs.Holding.{weight_of, gathered_weight, view_weight, weight_below}

module _ {A : Type 0} (f : A → ℕ) where
  -- the sum after a change of one item
  pub sum_set : (xs : List A) (i : ℕ) (a b : A) → get_elem? xs i ≡ some a → sum_by f (set xs i b) + f a ≡ sum_by f xs + f b
  sum_set [] i a b at = absurd (some-ne-none a (sym at))
  sum_set (x ∷ xs) zero a b at = let same : f x ≡ f a = ap f (some-injective x a at) in omega (arith, sum_by-cons f x xs, sum_by-cons f b xs)
  sum_set (x ∷ xs) (suc i) a b at = let rest = sum_set xs i a b at in omega (arith, sum_by-cons f x xs, sum_by-cons f x (set xs i b))

  -- an item weighs no more than all
  pub sum_one : (xs : List A) (i : ℕ) (a : A) → get_elem? xs i ≡ some a → f a ≤ sum_by f xs
  sum_one [] i a at = absurd (some-ne-none a (sym at))
  sum_one (x ∷ xs) zero a at = let same : f x ≡ f a = ap f (some-injective x a at) in omega (arith, sum_by-cons f x xs)
  sum_one (x ∷ xs) (suc i) a at = let rest = sum_one xs i a at in omega (arith, sum_by-cons f x xs)

  -- nor do two
  pub sum_two : (xs : List A) (i j : ℕ) (a b : A) → i ≢ j → get_elem? xs i ≡ some a → get_elem? xs j ≡ some b → f a + f b ≤ sum_by f xs
  sum_two [] i j a b apart at there = absurd (some-ne-none a (sym at))
  sum_two (x ∷ xs) zero zero a b apart at there = absurd (apart refl)
  sum_two (x ∷ xs) zero (suc j) a b apart at there = let same : f x ≡ f a = ap f (some-injective x a at) in let rest = sum_one xs j b there in omega (arith, sum_by-cons f x xs)
  sum_two (x ∷ xs) (suc i) zero a b apart at there = let same : f x ≡ f b = ap f (some-injective x b there) in let rest = sum_one xs i a at in omega (arith, sum_by-cons f x xs)
  sum_two (x ∷ xs) (suc i) (suc j) a b apart at there = let rest = sum_two xs i j a b (λ e. apart (ap suc e)) at there in omega (arith, sum_by-cons f x xs)

-- the weighing that counts one name
abbrev pub counts_name : ℕ → ℕ → ℕ
counts_name n m = if m == n then 1 else 0

pub counts_itself : (n : ℕ) → counts_name n n ≡ 1
counts_itself n = ap (λ b. if b then 1 else 0) (eq-eqb n n refl)

pub counts_other : (n m : ℕ) → m ≢ n → counts_name n m ≡ 0
counts_other n m apart = ap (λ b. if b then 1 else 0) (ne_eqb m n apart)

-- a name below a number is there once at most
pub below_itself : (n k : ℕ) → k ≤ n → weight_below (counts_name n) k ≡ 0
below_itself n zero le = refl
below_itself n (suc k) le = let rest = below_itself n k (omega arith) in omega (arith, counts_other n k (λ e. omega arith))

pub once_below : (n k : ℕ) → weight_below (counts_name n) k ≤ 1
once_below n zero = omega arith
once_below n (suc k) = elim (cases_eq k n) [
  | inl same ↦ (let rest = below_itself n k (omega arith) in omega (arith, ap (counts_name n) same, counts_itself n))
  | inr other ↦ (let rest = once_below n k in omega (arith, counts_other n k other))
]

-- no name of this number is in the view
pub record IsWithout (n : ℕ) (v : View) : Type 0 where
  pub own : weight_of (counts_name n) v.activity.name ≡ 0
  pub rest : gathered_weight (counts_name n) v.gathered ≡ 0

-- a name with no weight is another
pub other_name : (n m : ℕ) → weight_of (counts_name n) (Some m) ≡ 0 → m ≢ n
other_name n m none same = let one : counts_name n m ≡ 1 = ap (counts_name n) same ∙ counts_itself n in omega arith

-- where a pass has a name, no other has it, and it isn't among what was gathered
pub alone : (views : List View) (id n k : ℕ) (v : View) → sum_by (view_weight (counts_name n)) views ≡ weight_below (counts_name n) k → get_elem? views id ≡ some v → v.activity.name ≡ Some n → (other : ℕ) (w : View) → other ≢ id → get_elem? views other ≡ some w → IsWithout n w
alone views id n k v once at named other w apart there =
    let two = sum_two (view_weight (counts_name n)) views other id w v apart there at in
    let own : weight_of (counts_name n) v.activity.name ≡ 1 = ap (weight_of (counts_name n)) named ∙ counts_itself n in
    let most = once_below n k in
    record { own = omega arith; rest = omega arith }

pub own_alone : (views : List View) (id n k : ℕ) (v : View) → sum_by (view_weight (counts_name n)) views ≡ weight_below (counts_name n) k → get_elem? views id ≡ some v → v.activity.name ≡ Some n → gathered_weight (counts_name n) v.gathered ≡ 0
own_alone views id n k v once at named =
    let one = sum_one (view_weight (counts_name n)) views id v at in
    let own : weight_of (counts_name n) v.activity.name ≡ 1 = ap (weight_of (counts_name n)) named ∙ counts_itself n in
    let most = once_below n k in
    omega arith

-- a name that nobody has drawn is nobody's
pub undrawn : (views : List View) (id n : ℕ) (v : View) → sum_by (view_weight (counts_name n)) views ≡ weight_below (counts_name n) n → get_elem? views id ≡ some v → IsWithout n v
undrawn views id n v once at =
    let one = sum_one (view_weight (counts_name n)) views id v at in
    let none = below_itself n n (omega arith) in
    record { own = omega arith; rest = omega arith }

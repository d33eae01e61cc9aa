-- That different triples ascend strictly once they are sorted.
use Rattle.std.proofs.Common.{Ordering, ◌≡◌, ℕ, ◌<◌, ◌⊎◌, inl, inr, List, get_or, false, refl, arith}
use Rattle.std.proofs.lemmas.Bool.{cases_Bool}
use Rattle.std.proofs.lemmas.Cmp.{by_ranked, eq_by_cmp_equiv, nat_cmp_total, on_total, ranked, then_total}
use Rattle.std.proofs.lemmas.List.Sorted.{ranks_by, sorted_far}
use Rattle.std.proofs.lemmas.Map.Keys.{IsDistinct-from_apart, IsDistinct-IsPermutation, apart_from_distinct}
use Rattle.std.proofs.lemmas.Map.Lookups.{CmpEqualImpliesEq, exact_unsigned}
use Rattle.std.proofs.lemmas.Map.Views.{tells_apart}
use Rattle.std.specs.Cmp.{IsTotalOrder}
use Rattle.std.specs.List.{IsDistinct}
use Rattle.std.specs.Ordering.{eq_by_cmp, is_eq, is_lt, nat_cmp, ordering_reverse, ordering_then}
use Rattle.std.specs.Prelude.{IsPermutation, IsSorted}
use Rattle.std.specs.declared.cmp.Ordering.TheVariants.{Less, Equal, Greater}
use Rattle.stride_base.specs.Ascending.{Triple, Before, IsAscending, AreDistinct}

-- what std's order of triples answers
abbrev triple_cmp : Triple → Triple → Ordering
triple_cmp a b = ordering_then (ordering_then (nat_cmp a.0 b.0) (nat_cmp a.1 b.1)) (nat_cmp a.2 b.2)

-- it is a total order
triple_cmp-total : IsTotalOrder triple_cmp
triple_cmp-total =
    then_total (then_total (on_total (λ (t : Triple). t.0) nat_cmp_total) (on_total (λ (t : Triple). t.1) nat_cmp_total)) (on_total (λ (t : Triple). t.2) nat_cmp_total)

-- answers are joined in either grouping
ordering_then-assoc : (a b c : Ordering) → ordering_then (ordering_then a b) c ≡ ordering_then a (ordering_then b c)
ordering_then-assoc Less b c = refl
ordering_then-assoc Equal b c = refl
ordering_then-assoc Greater b c = refl

-- joined answers tie only where both do
both_tied : (a b : Ordering) → ordering_then a b ≡ Equal → (a ≡ Equal) × (b ≡ Equal)
both_tied Less b tied = absurd (cc)
both_tied Equal b tied = (refl, tied)
both_tied Greater b tied = absurd (cc)

-- triples with equal parts are equal
same_triple : (a b : Triple) → a.0 ≡ b.0 → a.1 ≡ b.1 → a.2 ≡ b.2 → a ≡ b
same_triple (x, y, z) (u, v, w) first second third = cc

-- triples that the order doesn't tell apart are equal
triple_cmp-exact : CmpEqualImpliesEq triple_cmp
triple_cmp-exact a b tied =
    let third = both_tied _ _ tied in
    let first = both_tied _ _ third.0 in
    same_triple a b (exact_unsigned _ _ first.0) (exact_unsigned _ _ first.1) (exact_unsigned _ _ third.1)

-- the first number is less, or it is the same and the rest decides
then_less : (x y : ℕ) (rest : Ordering) → ordering_then (nat_cmp x y) rest ≡ Less → (x < y) ⊎ ((x ≡ y) × (rest ≡ Less))
then_less x y rest less =
    by_ranked (x < y) (x ≡ y) (y < x) (nat_cmp x y) (ranked x y (nat_cmp x y) refl)
    (λ is below. inl below)
    (λ is same. inr (same, rw is at less))
    (λ is above. absurd (let no : Greater ≡ Less = rw is at less in cc))

-- what std's order calls less is before in dictionary order
Before-from_less : (a b : Triple) → triple_cmp a b ≡ Less → Before a b
Before-from_less a b less =
    elim (then_less a.0 b.0 _ (rw ordering_then-assoc at less)) [
      | inl below ↦ inl below
      | inr first ↦ inr (
        first.0,
        elim (then_less a.1 b.1 _ first.1) [
          | inl below ↦ inl below
          | inr second ↦ inr (
            second.0,
            by_ranked (a.2 < b.2) (a.2 ≡ b.2) (b.2 < a.2) (nat_cmp a.2 b.2) (ranked a.2 b.2 (nat_cmp a.2 b.2) refl)
                (λ is below. below)
                (λ is same. absurd (cc (is, second.1)))
                (λ is above. absurd (cc (is, second.1))),
          )
        ],
      )
    ]

-- what is neither the same nor after is before
less_from_tests : (o : Ordering) → is_lt (ordering_reverse o) ≡ false → is_eq o ≡ false → o ≡ Less
less_from_tests Less kept apart = refl
less_from_tests Equal kept apart = absurd (cc)
less_from_tests Greater kept apart = absurd (cc)

-- no two triples are equal, in std's word for it
IsDistinct-from_triples : (xs : List Triple) → AreDistinct xs → IsDistinct (eq_by_cmp triple_cmp) xs
IsDistinct-from_triples xs distinct =
    IsDistinct-from_apart (eq_by_cmp triple_cmp) xs (λ i j d below inside.
    elim (cases_Bool (eq_by_cmp triple_cmp (get_or xs i d) (get_or xs j d))) [
      | inl tied ↦ (
          let one : i ≡ j = distinct i j d (omega arith) inside (tells_apart triple_cmp-exact _ _ tied) in
          let no : ⊥ = omega arith in absurd no)
      | inr apart ↦ apart
    ])

-- different triples ascend strictly once they are sorted
pub IsAscending-from_sort : (xs ys : List Triple) → AreDistinct xs → IsPermutation xs ys → IsSorted triple_cmp ys → IsAscending ys
IsAscending-from_sort xs ys distinct moved sorted i j d below inside =
    let a = get_or ys i d in
    let b = get_or ys j d in
    let symm = (eq_by_cmp_equiv triple_cmp-total).symm in
    let apart : is_eq (triple_cmp a b) ≡ false = apart_from_distinct (eq_by_cmp triple_cmp) ys i j d
    (IsDistinct-IsPermutation (eq_by_cmp triple_cmp) symm xs ys moved (IsDistinct-from_triples xs distinct)) below inside in
    let kept : is_lt (triple_cmp b a) ≡ false = sorted_far (λ x y. is_lt (triple_cmp x y)) (ranks_by triple_cmp-total (λ x. x)) ys sorted i j d (omega arith) inside in
    Before-from_less a b (less_from_tests _ (rw (triple_cmp-total.antisymm b a) at kept) apart)

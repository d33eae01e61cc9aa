-- Where no number is left out, the items are no fewer than the places of their numbers.
use Rattle.std.proofs.Common.{◌≡◌, ℕ, zero, suc, ◌+◌, ◌<◌, ◌≤◌, ◌⊎◌, inl, inr, List, [], ◌∷◌, length, refl, sym, ap, subst, arith, add-one}
use Rattle.std.specs.Prelude.{Some, None, slice_get, slice_index}
use Rattle.std.proofs.Math.Nat.{eq-or-lt_of_le}
use Rattle.std.proofs.lemmas.Bool.{cases_eq, cases_lt}
use Rattle.linkage.specs.declared.numbered.Numbered.{Numbered}
use Rattle.linkage.specs.Numbers.{NotAfter, IsItemAt, IsOrdered, AreGreatest, IsFirstGap}
use Rattle.linkage.specs.Spans.{places_before}
use Rattle.linkage.proofs.GapLists.{item_same}
use Rattle.linkage.proofs.NumberedLists.{one_item, item_inside}
use Rattle.linkage.proofs.SpanPlaces.{places_more}

nothing : {V : Type 0} (i : ℕ) (item : Numbered V) → slice_get [] i ≡ Some item → ⊥
nothing i item is = cc

-- whether a list has an item of an owner and number
find_item : {V : Type 0} (items : List (Numbered V)) (o n : ℕ) → ((i : ℕ) × IsItemAt items i o n) ⊎ ((i : ℕ) → IsItemAt items i o n → ⊥)
find_item {V} [] o n = inr (λ i there. nothing i (record { owner = o; number = n; value = there.0 }) there.1)
find_item (x ∷ xs) o n =
    elim (find_item xs o n) [
      | inl found ↦ inl (suc found.0, found.1)
      | inr none ↦
          elim (cases_eq x.owner o) [
            | inl owner ↦
                elim (cases_eq x.number n) [
                  | inl number ↦ inl (zero, item_same (x ∷ xs) zero x.owner x.number o n (x.value, refl) owner number)
                  | inr other ↦ inr (not_here x xs o n none (λ e f. other f))
                ]
            | inr other ↦ inr (not_here x xs o n none (λ e f. other e))
          ]
    ]
  where
    not_here : {V : Type 0} (x : Numbered V) (xs : List (Numbered V)) (o n : ℕ) → ((i : ℕ) → IsItemAt xs i o n → ⊥) → (x.owner ≡ o → x.number ≡ n → ⊥) → (i : ℕ) → IsItemAt (x ∷ xs) i o n → ⊥
    not_here x xs o n none apart zero there = let e = one_item (x ∷ xs) zero x.owner x.number o n (x.value, refl) there in apart e.0 e.1
    not_here x xs o n none apart (suc i) there = none i there

next_owner : (o n p q : ℕ) → o < p → NotAfter p q o n → ⊥
next_owner o n p q less after = grind arith

next_number : (o n : ℕ) → NotAfter o (n + 1) o n → ⊥
next_number o n after = grind arith

module _ {V : Type 0} (items : List (Numbered V)) (owners : ℕ) (greatest : List ℕ) (ordered : IsOrdered items) (are : AreGreatest items owners greatest) (whole : IsFirstGap items greatest None) where
  -- each number up to the greatest is there
  there : (o n : ℕ) → o < owners → n ≤ slice_index greatest o → (i : ℕ) × IsItemAt items i o n
  there o n owned most =
      elim (eq-or-lt_of_le {n = n} {m = slice_index greatest o} most) [
        | inl top ↦ (let t = are.there o owned in (t.0, item_same items t.0 o (slice_index greatest o) o n t.1 refl (sym top)))
        | inr less ↦
            elim (find_item items o n) [
              | inl found ↦ found
              | inr none ↦ absurd (whole o n (record { owned = omega (arith, are.count, owned); below = less; missing = none }))
            ]
      ]

  -- an item stands behind each that is before it in the order
  behind : (i j o n p q : ℕ) → IsItemAt items i o n → IsItemAt items j p q → (NotAfter p q o n → ⊥) → i < j
  behind i j o n p q here there later =
      elim (cases_lt i j) [
        | inl less ↦ less
        | inr back ↦
            elim (eq-or-lt_of_le {n = j} {m = i} back) [
              | inl same ↦ (
                  let P : ℕ → Type 0 = λ k. IsItemAt items k p q in
                  let e = one_item items i o n p q here (subst P same there) in
                  absurd (later (inr (sym e.0, omega (arith, e.1)))))
              | inr less ↦ absurd (later (ordered j i p q o n less there here))
            ]
      ]

  -- an item has at least as many others before it as its number has places
  far : (o n : ℕ) → o < owners → n ≤ slice_index greatest o → (i : ℕ) → IsItemAt items i o n → places_before greatest o + n ≤ i
  far zero zero owned most i here = omega arith
  far (suc o) zero owned most i here =
      let top = are.there o (omega arith) in
      let under = far o (slice_index greatest o) (omega arith) (omega arith) top.0 top.1 in
      let less = behind top.0 i o (slice_index greatest o) (suc o) 0 top.1 here (next_owner o (slice_index greatest o) (suc o) 0 (omega arith)) in
      let more = places_more greatest o (omega (arith, are.count)) in
      let e : places_before greatest (suc o) ≡ places_before greatest (o + 1) = ap (places_before greatest) (sym (add-one o)) in
      omega (arith, under, less, more, e)
  far o (suc n) owned most i here =
      let before = there o n owned (omega arith) in
      let under = far o n owned (omega arith) before.0 before.1 in
      let less = behind before.0 i o n o (suc n) before.1 here (λ after. next_number o n (subst (λ (m : ℕ). NotAfter o m o n) (sym (add-one n)) after)) in
      omega (arith, under, less)

  -- there are no fewer items than places
  pub few_places : places_before greatest owners ≤ length items
  few_places = known owners refl
    where
      known : (count : ℕ) → count ≡ owners → places_before greatest count ≤ length items
      known zero is = omega arith
      known (suc o) is =
          let top = are.there o (omega arith) in
          let under = far o (slice_index greatest o) (omega arith) (omega arith) top.0 top.1 in
          let inside = item_inside items top.0 o (slice_index greatest o) top.1 in
          let more = places_more greatest o (omega (arith, are.count)) in
          let e : places_before greatest (suc o) ≡ places_before greatest (o + 1) = ap (places_before greatest) (sym (add-one o)) in
          omega (arith, under, inside, more, e)

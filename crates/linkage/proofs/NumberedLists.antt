-- Lists of items that ascend by owner and number.
use Rattle.std.proofs.Common.{◌≡◌, ◌∙◌, ℕ, ◌+◌, ◌-◌, ◌<◌, ◌≤◌, inl, inr, List, length, get_or, refl, sym, ap, subst, arith, false, Ordering}
use Rattle.std.specs.Prelude.{Some, None}
use Rattle.std.specs.Ordering.{is_lt, nat_cmp, ordering_then}
use Rattle.std.specs.List.Sorted.{IsSortedByKey}
use Rattle.std.proofs.Math.Nat.{eq-or-lt_of_le}
use Rattle.std.proofs.lemmas.Bool.{cases_lt}
use Rattle.std.proofs.lemmas.Cmp.{by_ranked, nat_cmp_total, on_total, ranked, then_total}
use Rattle.std.proofs.lemmas.List.Sorted.{ranks_by, sorted_far}
use Rattle.std.proofs.lemmas.Option.{get_or_from_slice_get, slice_get-get_or, slice_get_within}
use Rattle.linkage.specs.declared.numbered.Numbered.{Numbered}
use Rattle.linkage.specs.Numbers.{NotAfter, IsItemAt, IsOrdered, IsFirstTwice, AreApartBelow}

-- what std's order of pairs answers
abbrev pair_cmp : ℕ × ℕ → ℕ × ℕ → Ordering
pair_cmp a b = ordering_then (nat_cmp a.0 b.0) (nat_cmp a.1 b.1)

pair_not_less : (a b c d : ℕ) → is_lt (ordering_then (nat_cmp a c) (nat_cmp b d)) ≡ false → NotAfter c d a b
pair_not_less a b c d least =
    by_ranked (a < c) (a ≡ c) (c < a) (nat_cmp a c) (ranked a c (nat_cmp a c) refl)
    (λ is below. absurd (let e = rw is at least in cc))
    (λ is same.
    by_ranked (b < d) (b ≡ d) (d < b) (nat_cmp b d) (ranked b d (nat_cmp b d) refl)
    (λ is' below. absurd (let e = rw (is, is') at least in cc))
    (λ is' same'. inr (omega arith, omega arith))
    (λ is' above. inr (omega arith, omega arith)))
    (λ is above. inl above)

-- pairs between two equal ones are equal to them
squeezed : (a b c d : ℕ) → NotAfter a b c d → NotAfter c d a b → (c ≡ a) × (d ≡ b)
squeezed a b c d up down = (grind arith, grind arith)

module _ {V : Type 0} where
  key_of : Numbered V → ℕ × ℕ
  key_of item = (item.owner, item.number)

  -- an item at a place has one owner and number
  pub one_item : (items : List (Numbered V)) (i o n o' n' : ℕ) → IsItemAt items i o n → IsItemAt items i o' n' → (o ≡ o') × (n ≡ n')
  one_item items i o n o' n' (v, a) (w, b) =
      let x : Numbered V = record { owner = o; number = n; value = v } in
      let y : Numbered V = record { owner = o'; number = n'; value = w } in
      let some : Some x ≡ Some y = sym a ∙ b in
      let same : x ≡ y = cc in
      (ap (λ (t : Numbered V). t.owner) same, ap (λ (t : Numbered V). t.number) same)

  -- where one item is, each place has one
  pub item_there : (items : List (Numbered V)) (d : Numbered V) (i : ℕ) → i < length items → IsItemAt items i (get_or items i d).owner (get_or items i d).number
  item_there items d i below = ((get_or items i d).value, slice_get-get_or items i d below)

  pub item_read : (items : List (Numbered V)) (i : ℕ) (x : Numbered V) → i < length items → x ≡ get_or items i x → IsItemAt items i x.owner x.number
  item_read items i x below is = (x.value, slice_get-get_or items i x below ∙ ap Some (sym is))

  pub item_inside : (items : List (Numbered V)) (i o n : ℕ) → IsItemAt items i o n → i < length items
  item_inside items i o n (v, is) = slice_get_within items i _ is

  -- items that are sorted by their pairs are in order
  pub ordered_from_sort : (items : List (Numbered V)) → IsSortedByKey (λ (item : Numbered V). (item.owner, item.number)) pair_cmp items → IsOrdered items
  ordered_from_sort items sorted i j o n o' n' less (v, a) (w, b) =
      let x : Numbered V = record { owner = o; number = n; value = v } in
      let y : Numbered V = record { owner = o'; number = n'; value = w } in
      let total = then_total (on_total (λ (t : ℕ × ℕ). t.0) nat_cmp_total) (on_total (λ (t : ℕ × ℕ). t.1) nat_cmp_total) in
      let far = sorted_far (λ (s t : Numbered V). is_lt (pair_cmp (s.owner, s.number) (t.owner, t.number))) (ranks_by total (λ (item : Numbered V). (item.owner, item.number))) items sorted i j x (omega arith) (slice_get_within items j y b) in
      let at_i : get_or items i x ≡ x = get_or_from_slice_get items i x x a in
      let at_j : get_or items j x ≡ y = get_or_from_slice_get items j y x b in
      pair_not_less o' n' o n (rw (at_i, at_j) at far)

  module _ (items : List (Numbered V)) (ordered : IsOrdered items) where
    -- where two items are alike, so are the one and its next neighbour
    neighbours : (one other o n : ℕ) → one < other → IsItemAt items one o n → IsItemAt items other o n → IsItemAt items (one + 1) o n
    neighbours one other o n less a b =
        elim (eq-or-lt_of_le {n = one + 1} {m = other} (omega arith)) [
          | inl same ↦ rw same b
          | inr between ↦ (
              let d : Numbered V = record { owner = o; number = n; value = a.0 } in
              let there = item_there items d (one + 1) (omega (arith, item_inside items other o n b)) in
              let x = get_or items (one + 1) d in
              let same = squeezed o n x.owner x.number (ordered one (one + 1) o n x.owner x.number (omega arith) a there) (ordered (one + 1) other x.owner x.number o n between there b) in
              let P : ℕ × ℕ → Type 0 = λ t. IsItemAt items (one + 1) t.0 t.1 in
              let pair : (x.owner, x.number) ≡ (o, n) = cc in
              subst P pair there)
        ]

    -- where no neighbours are alike, no two items are
    pub none_twice : (high : ℕ) → length items ≤ high → AreApartBelow items high → IsFirstTwice items None
    none_twice high all apart o n twice =
        apart twice.one o n (omega (arith, twice.apart, all, item_inside items twice.other o n twice.at_other)) twice.at_one (neighbours twice.one twice.other o n twice.apart twice.at_one twice.at_other)

    -- the first neighbours that are alike are the least
    pub found_twice : (i o n : ℕ) → 1 ≤ i → AreApartBelow items i → IsItemAt items (i - 1) o n → IsItemAt items i o n → IsFirstTwice items (Some (o, n))
    found_twice i o n some apart before here = (
      record { one = i - 1; other = i; apart = omega arith; at_one = before; at_other = here },
      λ o' n' twice.
          let next = neighbours twice.one twice.other o' n' twice.apart twice.at_one twice.at_other in
          elim (cases_lt (twice.one + 1) i) [
            | inl below ↦ absurd (apart twice.one o' n' below twice.at_one next)
            | inr above ↦
                elim (eq-or-lt_of_le {n = i} {m = twice.one + 1} above) [
                  | inl same ↦ (let e = one_item items i o n o' n' here (rw same next) in inr (omega (arith, e.0), omega (arith, e.1)))
                  | inr less ↦ ordered i (twice.one + 1) o n o' n' less here next
                ]
          ],
    )

  -- one more place, whose neighbours are not alike
  pub apart_step : (items : List (Numbered V)) (i o n o' n' : ℕ) → AreApartBelow items i → IsItemAt items (i - 1) o n → IsItemAt items i o' n' → (o ≡ o' → n ≡ n' → ⊥) → AreApartBelow items (i + 1)
  apart_step items i o n o' n' apart before here differ k p q below a b =
      elim (eq-or-lt_of_le {n = k + 1} {m = i} (omega arith)) [
        | inl same ↦ (
            let back : k ≡ i - 1 = omega (arith, same) in
            let e = one_item items (i - 1) o n p q before (rw back at a) in
            let f = one_item items i o' n' p q here (rw same at b) in
            differ (e.0 ∙ sym f.0) (e.1 ∙ sym f.1))
        | inr less ↦ apart k p q less a b
      ]

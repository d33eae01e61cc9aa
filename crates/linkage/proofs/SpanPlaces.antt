-- Each number of an owner has a place of its own.
use Rattle.std.proofs.Common.{◌≡◌, ℕ, zero, suc, ◌+◌, ◌-◌, ◌<◌, ◌≤◌, inl, inr, List, length, sym, ap, arith, add-one}
use Rattle.std.specs.Prelude.{slice_index}
use Rattle.std.proofs.Math.Nat.{eq-or-lt_of_le}
use Rattle.std.proofs.lemmas.Bool.{cases_lt}
use Rattle.std.proofs.lemmas.List.Sums.{sum_by_more}
use Rattle.linkage.specs.declared.spans.Spans.{Spans}
use Rattle.linkage.specs.Spans.{AreSpans, HasPlace, place_of, places_before}

-- the places of an owner stand between those before it and those before the next
pub places_more : (greatest : List ℕ) (owner : ℕ) → owner < length greatest → places_before greatest (owner + 1) ≡ places_before greatest owner + (slice_index greatest owner + 1)
places_more greatest owner inside = sum_by_more (λ top. top + 1) greatest owner 0 inside

-- owners that come later have no fewer places before them
pub places_up : (greatest : List ℕ) (owner other : ℕ) → owner ≤ other → other ≤ length greatest → places_before greatest owner ≤ places_before greatest other
places_up greatest owner zero up inside =
    let e : owner ≡ 0 = omega arith in
    let f : places_before greatest owner ≡ places_before greatest 0 = ap (places_before greatest) e in
    omega (arith, f)
places_up greatest owner (suc other) up inside =
    elim (eq-or-lt_of_le {n = owner} {m = suc other} up) [
      | inl same ↦ (let f : places_before greatest owner ≡ places_before greatest (suc other) = ap (places_before greatest) same in omega (arith, f))
      | inr less ↦ (
          let before = places_up greatest owner other (omega arith) (omega arith) in
          let more = places_more greatest other (omega arith) in
          let f : places_before greatest (suc other) ≡ places_before greatest (other + 1) = ap (places_before greatest) (sym (add-one other)) in
          omega (arith, before, more, f))
    ]

module _ (spans : Spans) (shape : AreSpans spans) where
  -- behind the last place of an owner are those of the next
  pub before_next : (owner number : ℕ) → HasPlace spans owner number → place_of spans owner number < places_before spans.greatest.items (owner + 1)
  before_next owner number has =
      let more = places_more spans.greatest.items owner has.0 in
      omega (arith, shape.firsts.first owner has.0, more, has.1)

  pub place_inside : (owner number : ℕ) → HasPlace spans owner number → place_of spans owner number < spans.places
  place_inside owner number has =
      omega (arith, before_next owner number has, places_up spans.greatest.items (owner + 1) (length spans.greatest.items) (omega (arith, has.0)) (omega arith), shape.whole)

  before_later : (owner number other most : ℕ) → HasPlace spans owner number → HasPlace spans other most → owner < other → place_of spans owner number < place_of spans other most
  before_later owner number other most has has' less =
      omega (arith, before_next owner number has, places_up spans.greatest.items (owner + 1) other (omega arith) (omega (arith, has'.0)), shape.firsts.first other has'.0)

  -- no two numbers have one place
  pub places_apart : (owner number other most : ℕ) → HasPlace spans owner number → HasPlace spans other most → place_of spans owner number ≡ place_of spans other most → (owner ≡ other) × (number ≡ most)
  places_apart owner number other most has has' same =
      elim (cases_lt owner other) [
        | inl less ↦ absurd (let before = before_later owner number other most has has' less in omega (arith, before, same))
        | inr not_less ↦
            elim (eq-or-lt_of_le {n = other} {m = owner} not_less) [
              | inl equal ↦ (
                  let first : slice_index spans.firsts.items other ≡ slice_index spans.firsts.items owner = ap (slice_index spans.firsts.items) equal in
                  (sym equal, omega (arith, same, first)))
              | inr more ↦ absurd (let before = before_later other most owner number has' has more in omega (arith, before, same))
            ]
      ]

-- the owner among whose places this one is
owner_of : (greatest : List ℕ) (place owners : ℕ) → owners ≤ length greatest → place < places_before greatest owners → (owner : ℕ) × (owner < owners) × (places_before greatest owner ≤ place) × (place ≤ places_before greatest owner + slice_index greatest owner)
owner_of greatest place zero inside below = absurd (omega arith)
owner_of greatest place (suc owners) inside below =
    elim (cases_lt place (places_before greatest owners)) [
      | inl before ↦ (let found = owner_of greatest place owners (omega arith) before in (found.0, omega (arith, found.1), found.2, found.3))
      | inr behind ↦ (
          let more = places_more greatest owners (omega arith) in
          let f : places_before greatest (suc owners) ≡ places_before greatest (owners + 1) = ap (places_before greatest) (sym (add-one owners)) in
          (owners, omega arith, behind, omega (arith, more, f)))
    ]

-- each place is that of a number
pub number_at : (spans : Spans) (place : ℕ) → AreSpans spans → place < spans.places → (owner : ℕ) × (number : ℕ) × HasPlace spans owner number × (place ≡ place_of spans owner number)
number_at spans place shape inside =
    let found = owner_of spans.greatest.items place (length spans.greatest.items) (omega arith) (omega (arith, shape.whole)) in
    (found.0, place - places_before spans.greatest.items found.0, (found.1, omega (arith, found.3)), omega (arith, shape.firsts.first found.0 found.1, found.2))

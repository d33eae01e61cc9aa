-- Rows that have a place for each number of each owner.
use Rattle.std.specs.Prelude.{◌≡◌, ℕ, ◌+◌, ◌<◌, ◌≤◌, List, Bool, true, false, Option, length, take, sum_by, slice_index}
use Rattle.std.specs.List.{slice_index_or}
use Rattle.interleavings.specs.declared.traces.Place.{Place}
use Rattle.linkage.specs.declared.numbered.Numbered.{Numbered}
use Rattle.linkage.specs.declared.spans.Spans.{Spans}

-- how many places the owners before this one have: one for each number from 0 to the greatest
abbrev pub places_before : List ℕ → ℕ → ℕ
places_before greatest owner = sum_by (λ top. top + 1) (take owner greatest)

-- the first places of these owners
pub record AreFirsts (greatest firsts : List ℕ) (owners : ℕ) : Type 0 where
  pub count : length firsts ≡ owners
  pub first : (owner : ℕ) → owner < owners → slice_index firsts owner ≡ places_before greatest owner

-- the places of each owner follow those of the owner before
pub record AreSpans (spans : Spans) : Type 0 where
  pub firsts : AreFirsts spans.greatest.items spans.firsts.items (length spans.greatest.items)
  pub whole : spans.places ≡ places_before spans.greatest.items (length spans.greatest.items)

-- the place of an owner's number
abbrev pub place_of : Spans → ℕ → ℕ → ℕ
place_of spans owner number = slice_index spans.firsts.items owner + number

-- the number has a place
abbrev pub HasPlace : Spans → ℕ → ℕ → Type 0
HasPlace spans owner number = (owner < length spans.greatest.items) × (number ≤ slice_index spans.greatest.items owner)

module _ {V : Type 0} where
  -- a source gives an item of this owner and number
  pub record IsGivenOne (given : Option Place → Numbered V → Type 0) (owner number : ℕ) : Type 0 where
    pub source : Option Place
    pub value : V
    pub gives : given source (record { owner = owner; number = number; value = value })

  -- the owners are below this number, these are their greatest numbers, and each owner has its greatest
  pub record AreTops (given : Option Place → Numbered V → Type 0) (owners : ℕ) (greatest : List ℕ) : Type 0 where
    pub count : length greatest ≡ owners
    pub owned : (source : Option Place) (item : Numbered V) → given source item → item.owner < owners
    pub above : (source : Option Place) (item : Numbered V) → given source item → item.number ≤ slice_index greatest item.owner
    pub reached : (owner : ℕ) → owner < owners → IsGivenOne given owner (slice_index greatest owner)

  -- the places of the numbers that are given are marked, and no other place is
  pub record AreMarks (given : Option Place → Numbered V → Type 0) (spans : Spans) (marks : List Bool) : Type 0 where
    pub count : length marks ≡ spans.places
    pub marked : (owner number : ℕ) → HasPlace spans owner number → IsGivenOne given owner number → slice_index_or marks (place_of spans owner number) false ≡ true
    pub meant : (owner number : ℕ) → HasPlace spans owner number → slice_index_or marks (place_of spans owner number) false ≡ true → IsGivenOne given owner number

-- Lists of all items that sources give.
use Rattle.std.specs.Prelude.{◌≡◌, ◌≢◌, ℕ, ◌<◌, List, Option, Some, None, length, slice_get}
use Rattle.interleavings.specs.declared.traces.Place.{Place}
use Rattle.interleavings.specs.TraceLists.{TraceLists}
use Rattle.linkage.specs.declared.numbered.Numbered.{Numbered}
use Rattle.linkage.specs.Numbers.{IsTwice}
use Rattle.linkage.specs.Sources.{IsWriteAt}

module _ {V : Type 0} where
  -- two sources give an item of this owner and number
  pub record IsGivenTwice (given : Option Place → Numbered V → Type 0) (owner number : ℕ) : Type 0 where
    pub one : Option Place
    pub other : Option Place
    pub differ : one ≢ other
    pub one_value : V
    pub one_gives : given one (record { owner = owner; number = number; value = one_value })
    pub other_value : V
    pub other_gives : given other (record { owner = owner; number = number; value = other_value })

  -- each item of the list is given, each item that is given is in the list, and it is there twice where two sources give it
  pub record IsAllOf (given : Option Place → Numbered V → Type 0) (items : List (Numbered V)) : Type 0 where
    pub sound : (i : ℕ) (item : Numbered V) → slice_get items i ≡ Some item → (source : Option Place) × given source item
    pub complete : (source : Option Place) (item : Numbered V) → given source item → (i : ℕ) × (slice_get items i ≡ Some item)
    pub twice : (owner number : ℕ) → IsTwice items owner number → IsGivenTwice given owner number
    pub once : (owner number : ℕ) → IsGivenTwice given owner number → IsTwice items owner number

  -- what is given from the start to owners below this number
  abbrev pub StartsGiven : (Option Place → Numbered V → Type 0) → ℕ → Option Place → Numbered V → Type 0
  StartsGiven given owners None item = given None item × (item.owner < owners)
  StartsGiven given owners (Some place) item = ⊥

-- a source of a write
abbrev pub WriteGiven : TraceLists → Option Place → Numbered ℕ → Type 0
WriteGiven traces source item = IsWriteAt traces source item.owner item.number item.value

-- the starting values of the cells below this number
abbrev pub AreStartingWrites : TraceLists → ℕ → List (Numbered ℕ) → Type 0
AreStartingWrites traces cells items = IsAllOf (StartsGiven (WriteGiven traces) cells) items × (length items ≡ cells)

-- turn 0, which no event begins or ends
abbrev pub TurnZero : Option Place → Numbered (Unit {0}) → Type 0
TurnZero source item = item.number ≡ 0

-- turn 0 of the monitors below this number
abbrev pub AreStartingTurns : ℕ → List (Numbered (Unit {0})) → Type 0
AreStartingTurns monitors items = IsAllOf (StartsGiven TurnZero monitors) items

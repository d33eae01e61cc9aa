-- Lists of items that have an owner and a number.
use Rattle.std.specs.Prelude.{◌≡◌, ℕ, ◌+◌, ◌<◌, ◌≤◌, ◌⊎◌, List, Option, Some, None, length, slice_get, slice_index}
use Rattle.linkage.specs.declared.numbered.Numbered.{Numbered}

-- the first pair of owner and number stands before the second, or is equal to it
abbrev pub NotAfter : ℕ → ℕ → ℕ → ℕ → Type 0
NotAfter owner number owner' number' = (owner < owner') ⊎ ((owner ≡ owner') × (number ≤ number'))

-- the first pair of owner and number stands before the second
abbrev pub Earlier : ℕ → ℕ → ℕ → ℕ → Type 0
Earlier owner number owner' number' = (owner < owner') ⊎ ((owner ≡ owner') × (number < number'))

module _ {V : Type 0} where
  -- an item of this owner and number stands at this place of the list
  abbrev pub IsItemAt : List (Numbered V) → ℕ → ℕ → ℕ → Type 0
  IsItemAt items i owner number = (value : V) × (slice_get items i ≡ Some (record { owner = owner; number = number; value = value }))

  -- the items ascend by owner, then number
  abbrev pub IsOrdered : List (Numbered V) → Type 0
  IsOrdered items = (i j owner number owner' number' : ℕ) → i < j → IsItemAt items i owner number → IsItemAt items j owner' number' → NotAfter owner number owner' number'

  -- two of the items have this owner and number
  pub record IsTwice (items : List (Numbered V)) (owner number : ℕ) : Type 0 where
    pub one : ℕ
    pub other : ℕ
    pub apart : one < other
    pub at_one : IsItemAt items one owner number
    pub at_other : IsItemAt items other owner number

  -- the least owner and number that two of the items have, or none
  abbrev pub IsFirstTwice : List (Numbered V) → Option (ℕ × ℕ) → Type 0
  IsFirstTwice items None = (owner number : ℕ) → IsTwice items owner number → ⊥
  IsFirstTwice items (Some found) = IsTwice items found.0 found.1 × ((owner number : ℕ) → IsTwice items owner number → NotAfter found.0 found.1 owner number)

  -- no neighbours before this place have one owner and number
  abbrev pub AreApartBelow : List (Numbered V) → ℕ → Type 0
  AreApartBelow items high = (i owner number : ℕ) → i + 1 < high → IsItemAt items i owner number → IsItemAt items (i + 1) owner number → ⊥

  -- each item is of an owner below this number
  abbrev pub AreOwned : List (Numbered V) → ℕ → Type 0
  AreOwned items owners = (i owner number : ℕ) → IsItemAt items i owner number → owner < owners

  -- each owner below this number has an item of number 0
  abbrev pub AreStarted : List (Numbered V) → ℕ → Type 0
  AreStarted items owners = (owner : ℕ) → owner < owners → (i : ℕ) × IsItemAt items i owner 0

  -- these are the greatest numbers of each owner, and each owner has an item of its number
  pub record AreGreatest (items : List (Numbered V)) (owners : ℕ) (greatest : List ℕ) : Type 0 where
    pub count : length greatest ≡ owners
    pub above : (i owner number : ℕ) → IsItemAt items i owner number → number ≤ slice_index greatest owner
    pub there : (owner : ℕ) → owner < owners → (i : ℕ) × IsItemAt items i owner (slice_index greatest owner)

  -- the owner has a greater number, and no item has this one
  pub record IsGap (items : List (Numbered V)) (greatest : List ℕ) (owner number : ℕ) : Type 0 where
    pub owned : owner < length greatest
    pub below : number < slice_index greatest owner
    pub missing : (i : ℕ) → IsItemAt items i owner number → ⊥

  -- the least owner and number at which there is a gap, or none
  abbrev pub IsFirstGap : List (Numbered V) → List ℕ → Option (ℕ × ℕ) → Type 0
  IsFirstGap items greatest None = (owner number : ℕ) → IsGap items greatest owner number → ⊥
  IsFirstGap items greatest (Some found) = IsGap items greatest found.0 found.1 × ((owner number : ℕ) → IsGap items greatest owner number → NotAfter found.0 found.1 owner number)

  -- the next item has the same owner, and the number after this item's or no greater one
  abbrev pub IsFollowed : Numbered V → Option (Numbered V) → Type 0
  IsFollowed item None = ⊥
  IsFollowed item (Some next) = (next.owner ≡ item.owner) × (next.number ≤ item.number + 1)

  -- the number after this item's, where the owner has a greater one and the next item leaves it out
  abbrev pub IsGapAfter : Numbered V → Option (Numbered V) → ℕ → Option ℕ → Type 0
  IsGapAfter item next greatest None = item.number + 1 < greatest → IsFollowed item next
  IsGapAfter item next greatest (Some missing) = (missing ≡ item.number + 1) × (missing < greatest) × (IsFollowed item next → ⊥)

  -- behind each item before this place no number is left out
  abbrev pub AreFollowedBelow : List (Numbered V) → List ℕ → ℕ → Type 0
  AreFollowedBelow items greatest high = (i : ℕ) (item : Numbered V) → i < high → slice_get items i ≡ Some item → item.number + 1 < slice_index greatest item.owner → IsFollowed item (slice_get items (i + 1))

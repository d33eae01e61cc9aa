-- What a table keeps for slots, and how often slots are counted.
use Rattle.std.specs.Prelude.{◌≡◌, ℕ, ◌<◌, ◌==◌, ◌&&◌, Bool, false, if◌then◌else◌, List, [], length, map, Option, Some, None}
use Rattle.std.specs.Prelude.{Vec, slice_index_or}
use Rattle.event_order.specs.declared.slot.Slot.{Slot}

-- whether two slots are the same
abbrev pub same_slot : Slot → Slot → Bool
same_slot a b = (a.row == b.row) && (a.number == b.number)

-- the lists of vectors
abbrev pub rows_of : {X Z : Type 0} → List (Vec X Z) → List (List X)
rows_of rows = map (λ row. row.items) rows

-- what is kept for a slot, if anything is
abbrev pub entry : {X : Type 0} → List (List (Option X)) → Slot → Option X
entry rows slot = slice_index_or (slice_index_or rows slot.row []) slot.number None

-- the value is kept for the slot, and for each other slot what was kept before
pub record IsPut {X : Type 0} (old : Slot → Option X) (slot : Slot) (value : X) (new : Slot → Option X) : Type 0 where
  pub here : new slot ≡ Some value
  pub others : (other : Slot) → same_slot slot other ≡ false → new other ≡ old other

-- how often a slot is counted
abbrev pub counted : List (List ℕ) → Slot → ℕ
counted rows slot = slice_index_or (slice_index_or rows slot.row []) slot.number 0

-- the rows have a number for the slot
abbrev pub HasNumber : List (List ℕ) → Slot → Type 0
HasNumber rows slot = slot.number < length (slice_index_or rows slot.row [])

-- 1 where this slot is the one, or 0
abbrev pub is_given : Option Slot → Slot → ℕ
is_given None slot = 0
is_given (Some given) slot = if same_slot given slot then 1 else 0

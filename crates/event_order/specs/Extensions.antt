-- Extensions of the direct order: lists of all events in which each comes after its direct predecessors.
use Rattle.std.specs.Prelude.{◌≡◌, ℕ, ◌==◌, ◌&&◌, Bool, true, false, if◌then◌else◌, List, [], ◌∷◌, map, is_some}
use Rattle.interleavings.specs.declared.traces.Place.{Place}
use Rattle.interleavings.specs.TraceLists.{TraceLists}
use Rattle.linkage.specs.Sources.{event_at}
use Rattle.event_order.specs.DirectOrder.{Direct, LinkRows}

-- there is an event at the place
abbrev pub IsPlace : TraceLists → Place → Type 0
IsPlace traces at = is_some (event_at traces at) ≡ true

-- whether two places are the same
abbrev pub same_place : Place → Place → Bool
same_place a b = (a.thread == b.thread) && (a.place == b.place)

-- what stands, and one place more
abbrev pub standing_too : Place → (Place → Bool) → Place → Bool
standing_too at stands other = if same_place at other then true else stands other

-- the list goes on from what stands already until each event stands: each of its members is an event that doesn't stand yet,
-- and each direct predecessor of it does
abbrev pub Extends : TraceLists → LinkRows → (Place → Bool) → List Place → Type 0
Extends traces links stands [] = (at : Place) → IsPlace traces at → stands at ≡ true
Extends traces links stands (at ∷ rest) =
    IsPlace traces at × (stands at ≡ false) × ((before : Place) → Direct traces links before at → stands before ≡ true)
    × Extends traces links (standing_too at stands) rest

-- the list has each event once, and each after its direct predecessors
abbrev pub IsExtension : TraceLists → LinkRows → List Place → Type 0
IsExtension traces links places = Extends traces links (λ at. false) places

-- the thread of each place
abbrev pub schedule_of : List Place → List ℕ
schedule_of places = map (λ (at : Place). at.thread) places

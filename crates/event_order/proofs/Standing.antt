-- What stands on the way along an extension of the direct order, and what has happened by then.
use Rattle.std.proofs.Common.{◌≡◌, ℕ, ◌<◌, ◌≤◌, Bool, true, Option, Some, None, length, refl, ap, subst}
use Rattle.std.proofs.lemmas.Option.{slice_get_within}
use Rattle.std.specs.Option.{option_and_then}
use Rattle.interleavings.specs.declared.event.Event.{Event}
use Rattle.interleavings.specs.declared.event.Event.TheVariants as events
use Rattle.interleavings.specs.declared.traces.Place.{Place}
use Rattle.interleavings.specs.Events.{WriteOf, TurnOf, write_of, entered_by, left_by}
use Rattle.interleavings.specs.TraceLists.{TraceLists, events_of, IsInRange}
use Rattle.linkage.specs.declared.link_error.LinkError.{LinkError}
use Rattle.linkage.specs.Links.{IsLinked}
use Rattle.linkage.specs.Refusals.{IsRefused}
use Rattle.linkage.specs.Sources.{IsWriteAt, Stored, event_at}
use Rattle.event_order.specs.DirectOrder.{Direct, LinkRows, WritesAt, EntersAt, LeavesAt}
use Rattle.event_order.specs.Laws.{AreInRange}
use Rattle.event_order.proofs.Counted.{Counted}
use Rattle.event_order.proofs.Fits.{World}
use Rattle.event_order.proofs.Unique.{write_in}

-- the write that the event at a place makes
abbrev pub write_at : TraceLists → Place → Option WriteOf
write_at traces at = option_and_then write_of (event_at traces at)

-- the turn that it begins
abbrev pub begun_at : TraceLists → Place → Option TurnOf
begun_at traces at = option_and_then entered_by (event_at traces at)

-- the turn that it ends
abbrev pub left_at : TraceLists → Place → Option TurnOf
left_at traces at = option_and_then left_by (event_at traces at)

-- how a monitor that was entered so often stands: it was never entered, or its last turn has ended, and then nobody holds it;
-- or its last turn was begun and has not ended
pub data Holding (traces : TraceLists) (stands : Place → Bool) (monitor turn : ℕ) (holder : Option ℕ) : Type 0 where
  never : turn ≡ 0 → holder ≡ None → Holding traces stands monitor turn holder
  left : (at : Place) → LeavesAt traces at (record { monitor = monitor; turn = turn }) → stands at ≡ true → holder ≡ None → Holding traces stands monitor turn holder
  held : (at : Place) → EntersAt traces at (record { monitor = monitor; turn = turn }) → ((other : Place) → LeavesAt traces other (record { monitor = monitor; turn = turn }) → stands other ≡ true → ⊥) → Holding traces stands monitor turn holder

-- the events that stand are the first ones of each thread and closed under direct predecessors, and what happened is what
-- they did
pub record IsStanding (traces : TraceLists) (links : LinkRows) (done : ℕ → ℕ) (stands : Place → Bool) (w : World) : Type 0 where
  pub front : (at : Place) → stands at ≡ true → at.place < done at.thread
  pub fronts : (at : Place) → at.place < done at.thread → stands at ≡ true
  pub within : (t : ℕ) → done t ≤ length (events_of traces t)
  pub closed : (at other : Place) → Direct traces links at other → stands other ≡ true → stands at ≡ true
  pub writes : Counted (λ (write : WriteOf). write.cell) (λ (write : WriteOf). write.number) (write_at traces) stands w.counts.writes
  pub cells : (cell : ℕ) → cell < length traces.starts → Stored traces cell (w.counts.writes cell) (w.cells cell)
  pub enters : Counted (λ (begun : TurnOf). begun.monitor) (λ (begun : TurnOf). begun.turn) (begun_at traces) stands w.counts.enters
  pub holding : (monitor : ℕ) → Holding traces stands monitor (w.counts.enters monitor) (w.holders monitor)

-- the event at an earlier place of the thread begins the turn that the event at this place ends
pub record IsBegun (traces : TraceLists) (at : Place) (turn : TurnOf) : Type 0 where
  pub begun : Place
  pub thread : begun.thread ≡ at.thread
  pub before : begun.place < at.place
  pub enters : EntersAt traces begun turn

-- what is known of all the events
pub record IsSound (traces : TraceLists) (links : LinkRows) : Type 0 where
  pub fits : (refusal : LinkError) → IsRefused traces refusal → ⊥
  pub range : AreInRange traces
  pub linked : IsLinked traces links
  pub exits : (at : Place) (turn : TurnOf) → LeavesAt traces at turn → IsBegun traces at turn

-- a write is of a cell that is there
pub cell_there : (traces : TraceLists) → AreInRange traces → (at : Place) (write : WriteOf) → WritesAt traces at write → write.cell < length traces.starts
cell_there traces range at write is = of_event (event_at traces at) (range at) is
  where
    of_event : (found : Option Event) → ((event : Event) → found ≡ Some event → IsInRange traces event) → option_and_then write_of found ≡ Some write → write.cell < length traces.starts
    of_event (Some (events.Write cell value number)) range is = subst (λ (c : ℕ). c < length traces.starts) (ap (λ (o : Option WriteOf). (write_in o).cell) is) (range (events.Write cell value number) refl)
    of_event (Some (events.Update cell old new number)) range is = subst (λ (c : ℕ). c < length traces.starts) (ap (λ (o : Option WriteOf). (write_in o).cell) is) (range (events.Update cell old new number) refl)
    of_event found range is = absurd cc

-- and so is the source of a write
from_source : (traces : TraceLists) → AreInRange traces → (cell number value : ℕ) (source : Option Place) → IsWriteAt traces source cell number value → cell < length traces.starts
from_source traces range cell number value None is = slice_get_within traces.starts cell value is.1
from_source traces range cell number value (Some at) is = cell_there traces range at (record { cell = cell; number = number; value = value }) is

-- and so is what is stored
pub stored_there : (traces : TraceLists) → AreInRange traces → (cell number value : ℕ) → Stored traces cell number value → cell < length traces.starts
stored_there traces range cell number value stored = from_source traces range cell number value stored.0 stored.1

-- Events as a thread's row keeps them.
use Rattle.std.specs.Prelude.{ℕ, ◌<◌, List, [], ◌∷◌, length}
use Rattle.std.specs.List.{slice_index_or}
use Rattle.interleavings.specs.declared.event.Event.{Event}
use Rattle.interleavings.specs.declared.event.Event.TheVariants as events
use Rattle.interleavings.specs.declared.event_row.Exchange.{Exchange}
use Rattle.interleavings.specs.declared.event_row.Kept.{Kept}
use Rattle.interleavings.specs.declared.event_row.Kept.TheVariants as kept

-- what is kept of an event; an update's two values are kept apart, at this place
abbrev pub kept_of : Event → ℕ → Kept
kept_of (events.Read cell value bound) at = kept.Read cell bound value
kept_of (events.Write cell value number) at = kept.Write cell number value
kept_of (events.Update cell old new number) at = kept.Update cell number at
kept_of (events.Enter monitor turn) at = kept.Enter monitor turn
kept_of (events.Exit monitor turn) at = kept.Exit monitor turn

-- the values that are kept apart: an update's two
abbrev pub exchanges_of : Event → List Exchange
exchanges_of (events.Read cell value bound) = []
exchanges_of (events.Write cell value number) = []
exchanges_of (events.Update cell old new number) = record { old = old; new = new } ∷ []
exchanges_of (events.Enter monitor turn) = []
exchanges_of (events.Exit monitor turn) = []

-- the values that are kept at a place
abbrev pub exchange_at : List Exchange → ℕ → Exchange
exchange_at updates at = slice_index_or updates at (record { old = 0; new = 0 })

-- the event of what was kept of it, beside the values of the row's updates
abbrev pub event_of : List Exchange → Kept → Event
event_of updates (kept.Read cell bound value) = events.Read cell value bound
event_of updates (kept.Write cell number value) = events.Write cell value number
event_of updates (kept.Update cell number at) = events.Update cell (exchange_at updates at).old (exchange_at updates at).new number
event_of updates (kept.Enter monitor turn) = events.Enter monitor turn
event_of updates (kept.Exit monitor turn) = events.Exit monitor turn

-- the two values of a kept update are there
abbrev pub IsKept : List Exchange → Kept → Type 0
IsKept updates (kept.Read cell bound value) = Unit {0}
IsKept updates (kept.Write cell number value) = Unit {0}
IsKept updates (kept.Update cell number at) = at < length updates
IsKept updates (kept.Enter monitor turn) = Unit {0}
IsKept updates (kept.Exit monitor turn) = Unit {0}

-- the event's cell or monitor fits into a byte
abbrev pub IsNarrow : Event → Type 0
IsNarrow (events.Read cell value bound) = cell < 256
IsNarrow (events.Write cell value number) = cell < 256
IsNarrow (events.Update cell old new number) = cell < 256
IsNarrow (events.Enter monitor turn) = monitor < 256
IsNarrow (events.Exit monitor turn) = monitor < 256

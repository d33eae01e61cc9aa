-- The events of a run of the sequentially consistent machine, counted in the run alone.
use Rattle.std.specs.Prelude.{ℕ, ◌+◌, ◌==◌, if◌then◌else◌, List, [], ◌∷◌, Option, Some, None}
use Rattle.stride_isa.specs.Changes.{applied}
use Rattle.stride_isa.specs.Listing.{Listing}
use Rattle.sc_machine.specs.declared.stop.Stop.{Stop}
use Rattle.sc_machine.specs.declared.stop.Stop.TheVariants as stops
use Rattle.sc_machine.specs.ThreadStep.{stop_of}
use Rattle.sc_machine.specs.Machine.{Machine, put, thread_at}
use Rattle.sc_machine.specs.Schedule.{ready, turn}
use Rattle.interleavings.specs.declared.event.Event.{Event}
use Rattle.interleavings.specs.declared.event.Event.TheVariants as events

-- an event of a run: an access to a cell, a write or an update with its number among those of its cell, or a turn of a
-- monitor that begins or ends
pub data RunEvent : Type 0 where
  Reads : (cell value : ℕ) → RunEvent
  Writes : (cell value number : ℕ) → RunEvent
  Updates : (cell old new number : ℕ) → RunEvent
  Enters : (monitor turn : ℕ) → RunEvent
  Exits : (monitor turn : ℕ) → RunEvent

-- a recorded event without its bound
abbrev pub plain : Event → RunEvent
plain (events.Read cell value bound) = Reads cell value
plain (events.Write cell value number) = Writes cell value number
plain (events.Update cell old new number) = Updates cell old new number
plain (events.Enter monitor turn) = Enters monitor turn
plain (events.Exit monitor turn) = Exits monitor turn

-- how many writes and updates each cell had so far in a run, and how many times each monitor was entered
pub record Counts : Type 0 where
  pub writes : ℕ → ℕ
  pub enters : ℕ → ℕ

-- nothing has happened yet
abbrev pub no_counts : Counts
no_counts = record { writes = λ cell. 0; enters = λ monitor. 0 }

-- the counts after the instruction at a stop
abbrev pub counts_after : Stop → Counts → Counts
counts_after (stops.Read cell) counts = counts
counts_after (stops.Write cell value) counts = record counts { writes = put counts.writes cell (counts.writes cell + 1) }
counts_after (stops.Update cell change) counts = record counts { writes = put counts.writes cell (counts.writes cell + 1) }
counts_after (stops.Enter monitor) counts = record counts { enters = put counts.enters monitor (counts.enters monitor + 1) }
counts_after (stops.Exit monitor) counts = counts
counts_after (stops.Ended end) counts = counts

-- the event of the instruction at a stop, by the cells and the counts before it; an exit ends the last enter of its
-- monitor, since a thread leaves only what it holds
abbrev pub event_made : Stop → (ℕ → ℕ) → Counts → Option RunEvent
event_made (stops.Read cell) cells counts = Some (Reads cell (cells cell))
event_made (stops.Write cell value) cells counts = Some (Writes cell value (counts.writes cell + 1))
event_made (stops.Update cell change) cells counts = Some (Updates cell (cells cell) (applied change (cells cell)) (counts.writes cell + 1))
event_made (stops.Enter monitor) cells counts = Some (Enters monitor (counts.enters monitor + 1))
event_made (stops.Exit monitor) cells counts = Some (Exits monitor (counts.enters monitor))
event_made (stops.Ended end) cells counts = None

-- the event, if there is one, before others
abbrev pub if_made : Option RunEvent → List RunEvent → List RunEvent
if_made None others = others
if_made (Some event) others = event ∷ others

-- the events of thread t in the turns of these threads from a machine on, after so many writes and enters
unfoldable pub turn_events : Listing → ℕ → ℕ → List ℕ → Machine → Counts → List RunEvent
turn_events p fuel t [] m counts = []
turn_events p fuel t (u ∷ us) m counts =
    let stop = stop_of p u (thread_at m u) in
    let others = turn_events p fuel t us (turn p fuel u m) (counts_after stop counts) in
    if u == t then if_made (event_made stop m.cells counts) others else others

-- the events of thread t in the run of a schedule
unfoldable pub run_events : Listing → ℕ → List ℕ → ℕ → List RunEvent
run_events p fuel schedule t = turn_events p fuel t schedule (ready p fuel) no_counts

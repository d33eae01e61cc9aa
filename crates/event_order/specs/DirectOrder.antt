-- The direct order of events: which event has to come before which, by the program of their thread, by the numbers of
-- writes and the links of reads, and by the turns of monitors.
use Rattle.std.specs.Prelude.{◌≡◌, ℕ, ◌+◌, List, Option, Some, option_and_then}
use Rattle.interleavings.specs.declared.traces.Place.{Place}
use Rattle.interleavings.specs.Events.{WriteOf, ReadOf, TurnOf, write_of, read_of, entered_by, left_by}
use Rattle.interleavings.specs.TraceLists.{TraceLists}
use Rattle.linkage.specs.Links.{link_at}
use Rattle.linkage.specs.Sources.{event_at}

-- the numbers of the writes to which reads are linked, by thread and place
abbrev pub LinkRows : Type 0
LinkRows = List (List (Option ℕ))

-- the event at a place writes so, an update too
abbrev pub WritesAt : TraceLists → Place → WriteOf → Type 0
WritesAt traces at write = option_and_then write_of (event_at traces at) ≡ Some write

-- the event at a place reads so
abbrev pub ReadsAt : TraceLists → Place → ReadOf → Type 0
ReadsAt traces at read = option_and_then read_of (event_at traces at) ≡ Some read

-- the event at a place begins this turn
abbrev pub EntersAt : TraceLists → Place → TurnOf → Type 0
EntersAt traces at turn = option_and_then entered_by (event_at traces at) ≡ Some turn

-- the event at a place ends this turn
abbrev pub LeavesAt : TraceLists → Place → TurnOf → Type 0
LeavesAt traces at turn = option_and_then left_by (event_at traces at) ≡ Some turn

-- the event at the first place is a direct predecessor of the event at the second
pub data Direct (traces : TraceLists) (links : LinkRows) (first second : Place) : Type 0 where
  in_thread : second.thread ≡ first.thread → second.place ≡ first.place + 1 → Direct traces links first second
  next_write : (write next : WriteOf) → WritesAt traces first write → WritesAt traces second next → next.cell ≡ write.cell → next.number ≡ write.number + 1 → Direct traces links first second
  read_of_write : (write : WriteOf) (read : ReadOf) → WritesAt traces first write → ReadsAt traces second read → read.cell ≡ write.cell → link_at links second ≡ Some write.number → Direct traces links first second
  write_after_read : (read : ReadOf) (number : ℕ) (next : WriteOf) → ReadsAt traces first read → link_at links first ≡ Some number → WritesAt traces second next → next.cell ≡ read.cell → next.number ≡ number + 1 → Direct traces links first second
  next_turn : (left begun : TurnOf) → LeavesAt traces first left → EntersAt traces second begun → begun.monitor ≡ left.monitor → begun.turn ≡ left.turn + 1 → Direct traces links first second

-- Events, and what a log keeps of them.
use Rattle.std.specs.Prelude.{ℕ, List, Option, Some, None, unwrap_or}
use Rattle.std.specs.List.{filter_map}
use Rattle.std.specs.Option.{option_map}
use Rattle.interleavings.specs.declared.event.Event.{Event}
use Rattle.interleavings.specs.declared.event.Event.TheVariants as events
use Rattle.interleavings.specs.declared.event.LogEntry.{LogEntry}
use Rattle.interleavings.specs.declared.event.LogEntry.TheVariants as entries

-- what the log keeps of an event; an exit leaves no entry
abbrev pub entry_of : Event → Option LogEntry
entry_of (events.Read cell value bound) = Some (entries.Read bound value)
entry_of (events.Write cell value number) = Some (entries.Write number)
entry_of (events.Update cell old new number) = Some (entries.Update number old)
entry_of (events.Enter monitor turn) = Some (entries.Enter turn)
entry_of (events.Exit monitor turn) = None

-- the log of these events
abbrev pub log_of : List Event → List LogEntry
log_of finished = filter_map entry_of finished

-- a write of a cell: its number and the value that it stores
pub record WriteOf : Type 0 where
  pub cell : ℕ
  pub number : ℕ
  pub value : ℕ

-- the write that an event makes; an update is a write of its new value
abbrev pub write_of : Event → Option WriteOf
write_of (events.Read cell value bound) = None
write_of (events.Write cell value number) = Some (record { cell = cell; number = number; value = value })
write_of (events.Update cell old new number) = Some (record { cell = cell; number = number; value = new })
write_of (events.Enter monitor turn) = None
write_of (events.Exit monitor turn) = None

-- a read of a cell: the value that it meets
pub record ReadOf : Type 0 where
  pub cell : ℕ
  pub value : ℕ

-- the read that an event makes; an update is a read of its old value
abbrev pub read_of : Event → Option ReadOf
read_of (events.Read cell value bound) = Some (record { cell = cell; value = value })
read_of (events.Write cell value number) = None
read_of (events.Update cell old new number) = Some (record { cell = cell; value = old })
read_of (events.Enter monitor turn) = None
read_of (events.Exit monitor turn) = None

-- the bound of a read that was made without a lock; an update has none, since it meets the write before its own
abbrev pub bound_of : Event → Option ℕ
bound_of (events.Read cell value bound) = Some bound
bound_of (events.Write cell value number) = None
bound_of (events.Update cell old new number) = None
bound_of (events.Enter monitor turn) = None
bound_of (events.Exit monitor turn) = None

-- a turn of a monitor
pub record TurnOf : Type 0 where
  pub monitor : ℕ
  pub turn : ℕ

-- the turn that an event begins
abbrev pub entered_by : Event → Option TurnOf
entered_by (events.Read cell value bound) = None
entered_by (events.Write cell value number) = None
entered_by (events.Update cell old new number) = None
entered_by (events.Enter monitor turn) = Some (record { monitor = monitor; turn = turn })
entered_by (events.Exit monitor turn) = None

-- the turn that an event ends
abbrev pub left_by : Event → Option TurnOf
left_by (events.Read cell value bound) = None
left_by (events.Write cell value number) = None
left_by (events.Update cell old new number) = None
left_by (events.Enter monitor turn) = None
left_by (events.Exit monitor turn) = Some (record { monitor = monitor; turn = turn })

-- the word that an event gives its thread: the value that it met, if it read one
abbrev pub word_in : Event → Option ℕ
word_in event = option_map (λ (read : ReadOf). read.value) (read_of event)

-- the same, 0 where it gives none
abbrev pub word_given : Event → ℕ
word_given event = unwrap_or (word_in event) 0

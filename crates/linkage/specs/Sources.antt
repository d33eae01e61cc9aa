-- Where the writes of a cell and the turns of a monitor come from, and what the event at a place reads.
use Rattle.std.specs.Prelude.{◌≡◌, ℕ, ◌<◌, Option, Some, None, length, slice_get, sum_by}
use Rattle.std.specs.Option.{option_and_then}
use Rattle.interleavings.specs.declared.event.Event.{Event}
use Rattle.interleavings.specs.declared.traces.Place.{Place}
use Rattle.interleavings.specs.Events.{write_of, read_of, bound_of, entered_by, left_by}
use Rattle.interleavings.specs.TraceLists.{TraceLists, events_of}

-- the event at a place, if one is there
abbrev pub event_at : TraceLists → Place → Option Event
event_at traces place = slice_get (events_of traces place.thread) place.place

-- how many events there are in all
abbrev pub event_count : TraceLists → ℕ
event_count traces = sum_by length traces.events

-- a source of the write of a cell with this number and value: a place whose event makes it, or none for the starting value,
-- which has number 0
abbrev pub IsWriteAt : TraceLists → Option Place → ℕ → ℕ → ℕ → Type 0
IsWriteAt traces None cell number value = (number ≡ 0) × (slice_get traces.starts cell ≡ Some value)
IsWriteAt traces (Some place) cell number value = option_and_then write_of (event_at traces place) ≡ Some (record { cell = cell; number = number; value = value })

-- a write of the cell with this number stored this value
abbrev pub Stored : TraceLists → ℕ → ℕ → ℕ → Type 0
Stored traces cell number value = (source : Option Place) × IsWriteAt traces source cell number value

-- a source of an entry into a monitor by this turn: a place whose event makes it, or none for turn 0, by which nobody entered
abbrev pub IsEntryAt : TraceLists → Option Place → ℕ → ℕ → Type 0
IsEntryAt traces None monitor turn = (turn ≡ 0) × (monitor < traces.monitors)
IsEntryAt traces (Some place) monitor turn = option_and_then entered_by (event_at traces place) ≡ Some (record { monitor = monitor; turn = turn })

-- a source of an exit from a monitor that ends this turn; turn 0 has ended from the start
abbrev pub IsExitAt : TraceLists → Option Place → ℕ → ℕ → Type 0
IsExitAt traces None monitor turn = (turn ≡ 0) × (monitor < traces.monitors)
IsExitAt traces (Some place) monitor turn = option_and_then left_by (event_at traces place) ≡ Some (record { monitor = monitor; turn = turn })

-- the event at a place reads this value of the cell, with this bound
pub record IsReadAt (traces : TraceLists) (place : Place) (cell value bound : ℕ) : Type 0 where
  pub met : option_and_then read_of (event_at traces place) ≡ Some (record { cell = cell; value = value })
  pub within : option_and_then bound_of (event_at traces place) ≡ Some bound

-- the event at a place updates the cell: it met this old value, and is the write of this number
pub record IsUpdateAt (traces : TraceLists) (place : Place) (cell old number : ℕ) : Type 0 where
  pub met : option_and_then read_of (event_at traces place) ≡ Some (record { cell = cell; value = old })
  pub new : ℕ
  pub made : option_and_then write_of (event_at traces place) ≡ Some (record { cell = cell; number = number; value = new })

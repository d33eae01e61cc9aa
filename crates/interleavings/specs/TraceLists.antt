-- What contracts see of traces.
use Rattle.std.specs.Prelude.{ℕ, ◌<◌, ◌≤◌, List, [], ◌∷◌, ◌++◌, length, replicate}
use Rattle.std.specs.List.{AllByRecursion, slice_index_or}
use Rattle.std.specs.Prelude.{slice_set}
use Rattle.stride_isa.specs.Listing.{Listing, starts_of}
use Rattle.stride_isa.specs.Limits.{cell_limit, fuel_limit, monitor_limit, thread_limit}
use Rattle.interleavings.specs.declared.event.Event.{Event}
use Rattle.interleavings.specs.declared.event.Event.TheVariants.{Read, Write, Update, Enter, Exit}

-- the events of each thread, the starting value of each cell, and how many monitors there are
pub record TraceLists : Type 0 where
  pub events : List (List Event)
  pub starts : List ℕ
  pub monitors : ℕ

-- the traces of a program in which nothing has happened
abbrev pub no_events : Listing → TraceLists
no_events p = record { events = replicate (length p.threads) []; starts = starts_of p.decls; monitors = length p.monitors }

-- the events of a thread
abbrev pub events_of : TraceLists → ℕ → List Event
events_of traces thread = slice_index_or traces.events thread []

-- the cell or the monitor of an event is there
abbrev pub IsInRange : TraceLists → Event → Type 0
IsInRange traces (Read cell value bound) = cell < length traces.starts
IsInRange traces (Write cell value number) = cell < length traces.starts
IsInRange traces (Update cell old new number) = cell < length traces.starts
IsInRange traces (Enter monitor turn) = monitor < traces.monitors
IsInRange traces (Exit monitor turn) = monitor < traces.monitors

-- the traces with one more event of a thread
abbrev pub with_event_of : TraceLists → ℕ → Event → TraceLists
with_event_of traces thread event = record traces { events = slice_set traces.events thread (events_of traces thread ++ event ∷ []) }

-- the traces are within the limits of a program and of its threads' fuel, and each event is of a cell or a monitor that is
-- there
pub record IsTraces (traces : TraceLists) : Type 0 where
  pub threads : length traces.events ≤ thread_limit
  pub cells : length traces.starts ≤ cell_limit
  pub monitors : traces.monitors ≤ monitor_limit
  pub counts : AllByRecursion (λ events. length events ≤ fuel_limit) traces.events
  pub ranges : AllByRecursion (λ events. AllByRecursion (IsInRange traces) events) traces.events

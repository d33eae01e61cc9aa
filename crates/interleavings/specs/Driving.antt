-- The recording that an order gives: a program's threads run over the shared words, atomic step by atomic step.
use Rattle.std.specs.Prelude.{ℕ, zero, suc, ◌+◌, Bool, true, false, if◌then◌else◌, List, [], ◌∷◌, map, Option, Some, None, slice_index_or, slice_set, nat_le}
use Rattle.std.specs.List.{range_with_len}
use Rattle.std.specs.Option.{option_map}
use Rattle.stride_isa.specs.Changes.{applied}
use Rattle.stride_isa.specs.declared.change.Change.{Change}
use Rattle.stride_isa.specs.Listing.{cell_count}
use Rattle.sc_machine.specs.declared.stop.Stop.{Stop}
use Rattle.sc_machine.specs.declared.stop.Stop.TheVariants as stops
use Rattle.sc_machine.specs.ThreadStep.{Thread, start_thread, settled, stop_of, end_of}
use Rattle.sc_machine.specs.Schedule.{stopped, thread_numbers}
use Rattle.interleavings.specs.declared.activity.OddLooks.{OddLooks}
use Rattle.interleavings.specs.declared.activity.Phase.{Phase}
use Rattle.interleavings.specs.declared.activity.Phase.TheVariants.{Idle, Loaded, Numbered, Marked, Fetched, Stored, Looked}
use Rattle.interleavings.specs.declared.event.Event.{Event}
use Rattle.interleavings.specs.declared.kind.Kind.{Kind}
use Rattle.interleavings.specs.declared.kind.Kind.TheVariants as by
use Rattle.interleavings.specs.declared.rest.Rest.{Rest}
use Rattle.interleavings.specs.declared.rest.Rest.TheVariants as rests
use Rattle.interleavings.specs.AtomicStep.{Value, word_of, finished_by}
use Rattle.interleavings.specs.Events.{log_of}
use Rattle.interleavings.specs.EventStep.{after_event}
use Rattle.interleavings.specs.History.{State, Step}
use Rattle.interleavings.specs.Recording.{Setting, Recording, state_of, activity_of, gives_up}
use Rattle.interleavings.specs.Walking.{is_exit}

-- a run of the program under way: its atomic steps so far, the last of them first, and its threads
pub record Drive : Type 0 where
  pub steps : List Step
  pub threads : List Thread

-- the thread of this number
abbrev pub thread_of : Drive → ℕ → Thread
thread_of d t = slice_index_or d.threads t start_thread

-- the kind of the next step of a reader in this phase
abbrev pub read_kind : Phase → Kind
read_kind Idle = by.ValueLoad
read_kind (Loaded cell value) = by.NumberLoad
read_kind (Numbered cell n) = by.ValueLoad
read_kind (Marked cell n) = by.ValueLoad
read_kind (Fetched cell n old) = by.ValueLoad
read_kind (Stored cell n old value) = by.ValueLoad
read_kind (Looked monitor turn) = by.ValueLoad

-- of a writer
abbrev pub write_kind : Phase → Kind
write_kind Idle = by.SeeNumber
write_kind (Loaded cell value) = by.SeeNumber
write_kind (Numbered cell n) = by.Claim
write_kind (Marked cell n) = by.Put
write_kind (Fetched cell n old) = by.Put
write_kind (Stored cell n old value) = by.Complete
write_kind (Looked monitor turn) = by.SeeNumber

-- of a thread that updates, which loads the old value after its claim
abbrev pub update_kind : Phase → Kind
update_kind Idle = by.SeeNumber
update_kind (Loaded cell value) = by.SeeNumber
update_kind (Numbered cell n) = by.Claim
update_kind (Marked cell n) = by.Fetch
update_kind (Fetched cell n old) = by.Put
update_kind (Stored cell n old value) = by.Complete
update_kind (Looked monitor turn) = by.SeeNumber

-- of a thread that enters a monitor
abbrev pub enter_kind : Phase → Kind
enter_kind Idle = by.Look
enter_kind (Loaded cell value) = by.Look
enter_kind (Numbered cell n) = by.Look
enter_kind (Marked cell n) = by.Look
enter_kind (Fetched cell n old) = by.Look
enter_kind (Stored cell n old value) = by.Look
enter_kind (Looked monitor turn) = by.Enter

-- the kind of the next atomic step of a thread that stands at this shared instruction in this phase; one that has ended
-- makes none
abbrev pub next_kind : Stop → Phase → Option Kind
next_kind (stops.Read cell) phase = Some (read_kind phase)
next_kind (stops.Write cell value) phase = Some (write_kind phase)
next_kind (stops.Update cell change) phase = Some (update_kind phase)
next_kind (stops.Enter monitor) phase = Some (enter_kind phase)
next_kind (stops.Exit monitor) phase = Some by.Leave
next_kind (stops.Ended end) phase = None

-- the cell or the monitor of a shared instruction
abbrev pub at_of : Stop → ℕ
at_of (stops.Read cell) = cell
at_of (stops.Write cell value) = cell
at_of (stops.Update cell change) = cell
at_of (stops.Enter monitor) = monitor
at_of (stops.Exit monitor) = monitor
at_of (stops.Ended end) = 0

-- the value that an update has to store: 0 where it has not loaded the old one, or has stored already
abbrev pub updated : Change → Phase → ℕ
updated change Idle = 0
updated change (Loaded cell value) = 0
updated change (Numbered cell n) = 0
updated change (Marked cell n) = 0
updated change (Fetched cell n old) = applied change old
updated change (Stored cell n old value) = 0
updated change (Looked monitor turn) = 0

-- the value that a thread has to store that stands at this shared instruction in this phase
abbrev pub value_of : Stop → Phase → ℕ
value_of (stops.Read cell) phase = 0
value_of (stops.Write cell value) phase = value
value_of (stops.Update cell change) phase = updated change phase
value_of (stops.Enter monitor) phase = 0
value_of (stops.Exit monitor) phase = 0
value_of (stops.Ended end) phase = 0

-- the next atomic step of a thread that stands at this shared instruction in this phase
abbrev pub next_step : ℕ → Stop → Phase → Option Step
next_step t stop phase =
    option_map (λ kind. record { who = t; kind = kind; at = at_of stop; value = value_of stop phase }) (next_kind stop phase)

-- the event that a step finishes in this state, if it finishes one
abbrev pub finished_in : State → Step → Option Event
finished_in st s = finished_by s.kind s.at (st.people s.who).activity (st.words (word_of s.kind s.at))

-- the thread after a step of its own, which may have finished an event; where its row of odd looks reached the patience, it
-- ends as stopped
abbrev pub thread_after : Setting → ℕ → Option Event → Option OddLooks → Thread → Thread
thread_after g t (Some event) row s = after_event g.program g.fuel t event s
thread_after g t None row s = if gives_up g.patience row then stopped s else s

-- the run after an atomic step
abbrev pub stepped : Setting → Step → Drive → Drive
stepped g step d = record {
  steps = step ∷ d.steps;
  threads = slice_set d.threads step.who (thread_after g step.who (finished_in (state_of g d.steps) step) (activity_of g (step ∷ d.steps) step.who).looks (thread_of d step.who));
}

-- the same where there is a step
abbrev pub stepped_if : Setting → Option Step → Drive → Drive
stepped_if g None d = d
stepped_if g (Some step) d = stepped g step d

-- the run after one atomic step of a thread, if it has not ended
unfoldable pub advance : Setting → ℕ → Drive → Drive
advance g t d = stepped_if g (next_step t (stop_of g.program t (thread_of d t)) (activity_of g d.steps t).phase) d

-- the run after one step of each thread of the list in turn
unfoldable pub advance_all : Setting → List ℕ → Drive → Drive
advance_all g [] d = d
advance_all g (t ∷ ts) d = advance_all g ts (advance g t d)

-- the draws of these threads, the last of them first, before these steps
abbrev pub draws : List ℕ → List Step → List Step
draws [] steps = steps
draws (t ∷ ts) steps = draws ts (record { who = t; kind = by.Draw; at = 0; value = 0 } ∷ steps)

-- the run at its start: each thread has drawn its name and made its local start, in order of number
unfoldable pub begun : Setting → Drive
begun g = record {
  steps = draws (thread_numbers g.program) [];
  threads = map (λ t. settled g.program g.fuel t start_thread) (thread_numbers g.program);
}

-- whether a writer in this phase has claimed its number and not completed it
abbrev pub has_claimed : Phase → Bool
has_claimed Idle = false
has_claimed (Loaded cell value) = false
has_claimed (Numbered cell n) = false
has_claimed (Marked cell n) = true
has_claimed (Fetched cell n old) = true
has_claimed (Stored cell n old value) = true
has_claimed (Looked monitor turn) = false

-- whether a reader in this phase has loaded the value and not found the number even yet
abbrev pub is_loaded : Phase → Bool
is_loaded Idle = false
is_loaded (Loaded cell value) = true
is_loaded (Numbered cell n) = false
is_loaded (Marked cell n) = false
is_loaded (Fetched cell n old) = false
is_loaded (Stored cell n old value) = false
is_loaded (Looked monitor turn) = false

-- whether a thread has this left: a write or an update that it has claimed, a read whose number it has not found even yet, or
-- an exit at which it stands
abbrev pub is_left : Rest → Setting → ℕ → Drive → Bool
is_left rests.Write g t d = has_claimed (activity_of g d.steps t).phase
is_left rests.Read g t d = is_loaded (activity_of g d.steps t).phase
is_left rests.Exits g t d = is_exit (stop_of g.program t (thread_of d t))

-- up to n steps of a thread, as long as it has this left
unfoldable pub finished_within : ℕ → Rest → Setting → ℕ → Drive → Drive
finished_within zero rest g t d = d
finished_within (suc n) rest g t d = if is_left rest g t d then finished_within n rest g t (advance g t d) else d

-- the run after a thread has finished what it has left; the bound is never met, since what is claimed is complete after three
-- steps, numbers are even then, and each exit uses fuel
abbrev pub finished : Rest → Setting → ℕ → Drive → Drive
finished rest g t d = finished_within (g.fuel + 3) rest g t d

-- the run after each of these threads has finished it, in turn
abbrev pub finished_by_all : Rest → Setting → List ℕ → Drive → Drive
finished_by_all rest g [] d = d
finished_by_all rest g (t ∷ ts) d = finished_by_all rest g ts (finished rest g t d)

-- the run after the order: what was claimed is finished, then what was read, then exits are made, each by the threads in order
-- of number
unfoldable pub settle_all : Setting → Drive → Drive
settle_all g d =
    let ts = thread_numbers g.program in
    finished_by_all rests.Exits g ts (finished_by_all rests.Read g ts (finished_by_all rests.Write g ts d))

-- the whole run of an order, in which each thread that has not ended then is stopped
unfoldable pub whole_run : Setting → List ℕ → Drive
whole_run g order =
    let last = settle_all g (advance_all g order (begun g)) in
    record { steps = last.steps; threads = map stopped last.threads }

-- the recording of a run
unfoldable pub recording_of : Setting → Drive → Recording
recording_of g d = record {
  logs = map (λ t. log_of (activity_of g d.steps t).events) (thread_numbers g.program);
  outputs = map (λ (s : Thread). s.out) d.threads;
  ends = map end_of d.threads;
  last_values = map (λ cell. (state_of g d.steps).words (Value cell)) (range_with_len 0 (cell_count g.program.decls));
}

-- the recording that an order gives
unfoldable pub driven : Setting → List ℕ → Recording
driven g order = recording_of g (whole_run g order)

-- the place of the first member of an order that names no thread
unfoldable pub stranger : ℕ → List ℕ → Option ℕ
stranger threads [] = None
stranger threads (t ∷ ts) = if nat_le threads t then Some 0 else option_map (λ place. place + 1) (stranger threads ts)

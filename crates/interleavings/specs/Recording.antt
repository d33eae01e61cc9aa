-- Recordings: what is kept of a run of a program's threads over the shared words, however their steps interleaved.
use Rattle.std.specs.Prelude.{◌≡◌, ◌⊎◌, ℕ, ◌<◌, Bool, false, Option, Some, None, nat_le, slice_get, List, [], ◌∷◌, map, length, Ok}
use Rattle.std.specs.List.{range_with_len}
use Rattle.stride_isa.specs.Listing.{Listing, cell_count, op_at, starts_of}
use Rattle.stride_isa.specs.declared.op.Op.TheVariants as ops
use Rattle.sc_machine.specs.declared.end.End.{End}
use Rattle.sc_machine.specs.declared.end.End.TheVariants.{Halted, Trapped, OutOfSteps, Stopped}
use Rattle.sc_machine.specs.Schedule.{thread_numbers}
use Rattle.sc_machine.specs.ThreadStep.{end_of}
use Rattle.interleavings.specs.declared.activity.Activity.{Activity}
use Rattle.interleavings.specs.declared.activity.OddLooks.{OddLooks}
use Rattle.interleavings.specs.declared.activity.Phase.{Phase}
use Rattle.interleavings.specs.declared.activity.Phase.TheVariants.{Idle, Loaded, Numbered, Marked, Fetched, Stored, Looked}
use Rattle.interleavings.specs.declared.event.LogEntry.{LogEntry}
use Rattle.interleavings.specs.AtomicStep.{Value}
use Rattle.interleavings.specs.Events.{log_of}
use Rattle.interleavings.specs.Following.{Followed, follow_all}
use Rattle.interleavings.specs.History.{State, Step, after, IsHistory}

-- what is fixed of a run: the program, how many instructions a thread may make, and after how many odd looks in a row it
-- gives up
pub record Setting : Type 0 where
  pub program : Listing
  pub fuel : ℕ
  pub patience : ℕ

-- the shared words and the threads after these steps
abbrev pub state_of : Setting → List Step → State
state_of g steps = after (starts_of g.program.decls) steps

-- what a thread has done and is doing
abbrev pub activity_of : Setting → List Step → ℕ → Activity
activity_of g steps t = ((state_of g steps).people t).activity

-- whether a row of odd looks has reached the patience
abbrev pub gives_up : ℕ → Option OddLooks → Bool
gives_up patience None = false
gives_up patience (Some row) = nat_le patience row.count

-- a recording: each thread's log, its output and its end, and the last value of each cell
pub record Recording : Type 0 where
  pub logs : List (List LogEntry)
  pub outputs : List (List ℕ)
  pub ends : List End
  pub last_values : List ℕ

-- a thread is between its shared instructions, or has seen a number and not claimed, or has looked at a monitor and not
-- entered it
abbrev pub IsAtRest : Phase → Type 0
IsAtRest Idle = Unit {0}
IsAtRest (Loaded cell value) = ⊥
IsAtRest (Numbered cell n) = Unit {0}
IsAtRest (Marked cell n) = ⊥
IsAtRest (Fetched cell n old) = ⊥
IsAtRest (Stored cell n old value) = ⊥
IsAtRest (Looked monitor turn) = Unit {0}

-- the step is one of these
abbrev pub Among : Step → List Step → Type 0
Among s [] = ⊥
Among s (other ∷ steps) = (s ≡ other) ⊎ Among s steps

-- the steps are a history of the program's threads with these logs and last values, after which each thread is at rest
pub record IsHistoryOf (g : Setting) (recording : Recording) (steps : List Step) : Type 0 where
  pub lawful : IsHistory (starts_of g.program.decls) steps
  pub threads : (s : Step) → Among s steps → s.who < length g.program.threads
  pub logs : recording.logs ≡ map (λ t. log_of (activity_of g steps t).events) (thread_numbers g.program)
  pub at_rest : (t : ℕ) → IsAtRest (activity_of g steps t).phase
  pub last_values : recording.last_values ≡ map (λ cell. (state_of g steps).words (Value cell)) (range_with_len 0 (cell_count g.program.decls))

-- following the logs of a recording gives the events that these steps finished, and the outputs and the ends of the
-- recording
pub record IsFollowed (g : Setting) (recording : Recording) (steps : List Step) : Type 0 where
  pub followed : List Followed
  pub follows : follow_all g.program g.fuel recording.logs ≡ Ok followed
  pub events : map (λ (f : Followed). f.events) followed ≡ map (λ t. (activity_of g steps t).events) (thread_numbers g.program)
  pub outputs : map (λ (f : Followed). f.thread.out) followed ≡ recording.outputs
  pub ends : map (λ (f : Followed). end_of f.thread) followed ≡ recording.ends

-- a thread gave up at the instruction at this position: its row of odd looks has reached the patience, and the instruction
-- enters the monitor of that row
abbrev pub GaveUpAt : Setting → ℕ → Option OddLooks → ℕ → Type 0
GaveUpAt g t None pc = ⊥
GaveUpAt g t (Some row) pc = (row.count ≡ g.patience) × (op_at g.program t pc ≡ ops.Enter row.mon)

-- the end of a thread whose looks were these: it ended as stopped exactly where it gave up
abbrev pub IsEndAfter : Setting → ℕ → Option OddLooks → End → Type 0
IsEndAfter g t row Halted = gives_up g.patience row ≡ false
IsEndAfter g t row (Trapped trap pc) = gives_up g.patience row ≡ false
IsEndAfter g t row OutOfSteps = gives_up g.patience row ≡ false
IsEndAfter g t row (Stopped pc) = GaveUpAt g t row pc

-- a recording of the program's threads: some history of atomic steps has its logs and last values, following the logs gives
-- the events of these steps with its outputs and ends, and a thread ended as stopped exactly where it gave up
pub record IsRecording (g : Setting) (recording : Recording) : Type 0 where
  pub steps : List Step
  pub history : IsHistoryOf g recording steps
  pub followed : IsFollowed g recording steps
  pub ends : (t : ℕ) (end : End) → slice_get recording.ends t ≡ Some end → IsEndAfter g t (activity_of g steps t).looks end

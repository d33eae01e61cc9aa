-- What contracts see of a `ThreadRun`, and of its two parts: a thread's state without its output, which lies with the caller.
use Rattle.std.specs.Prelude.{◌≡◌, ℕ, ◌<◌, length, List, [], Bool, Option, Some, None}
use Rattle.stride_isa.specs.Limits.{cell_limit, monitor_limit}
use Rattle.stride_isa.specs.Listing.{Listing, cell_count}
use Rattle.sc_machine.specs.declared.end.End.{End}
use Rattle.sc_machine.specs.declared.frame.Frame.{Frame}
use Rattle.sc_machine.specs.declared.stop.Stop.{Stop}
use Rattle.sc_machine.specs.declared.stop.Stop.TheVariants.{Read, Write, Update, Enter, Exit, Ended}
use Rattle.sc_machine.specs.Operands.{operands}
use Rattle.sc_machine.specs.ThreadStep.{Thread, start_thread, Stands, now, stop_of, answered}

-- a run of one thread of a program, with its fuel
pub record Run : Type 0 where
  pub program : Listing
  pub thread : ℕ
  pub fuel : ℕ
  pub pc : ℕ
  pub stack : List ℕ
  pub locals : List ℕ
  pub held : List Bool
  pub made : ℕ
  pub ended : Option End

-- a run without its arrays, with the depth of its stack
pub record RunControl : Type 0 where
  pub program : Listing
  pub thread : ℕ
  pub fuel : ℕ
  pub pc : ℕ
  pub depth : ℕ
  pub made : ℕ
  pub ended : Option End

-- the run that these two make together
abbrev pub run_of : RunControl → Frame → Run
run_of control frame = record {
  program = control.program;
  thread = control.thread;
  fuel = control.fuel;
  pc = control.pc;
  stack = operands frame.words control.depth;
  locals = frame.locals;
  held = frame.held;
  made = control.made;
  ended = control.ended;
}

-- the thread's state where it has printed this
abbrev pub state : Run → List ℕ → Thread
state r out = record { pc = r.pc; stack = r.stack; locals = r.locals; held = r.held; out = out; made = r.made; ended = r.ended }

-- a run at its start
abbrev pub start_run : Listing → ℕ → ℕ → Run
start_run p thread fuel = record {
  program = p;
  thread = thread;
  fuel = fuel;
  pc = start_thread.pc;
  stack = start_thread.stack;
  locals = start_thread.locals;
  held = start_thread.held;
  made = start_thread.made;
  ended = start_thread.ended;
}

-- the shared instruction, or the end, at which the run stands
abbrev pub stop_at : Run → Stop
stop_at r = stop_of r.program r.thread (state r [])

-- the run stands at this stop
abbrev pub StandsAt : Run → Stop → Type 0
StandsAt r stop = now r.program r.thread (state r []) ≡ Stands stop

-- it is a run of the same thread of the same program, with the same fuel
pub record SameThread (old new : Run) : Type 0 where
  pub program : new.program ≡ old.program
  pub thread : new.thread ≡ old.thread
  pub fuel : new.fuel ≡ old.fuel

-- whatever was printed, the new state is the old one after its shared instruction, given the word
abbrev pub IsAnswered : Run → Run → ℕ → Type 0
IsAnswered old new word =
    (out : List ℕ) → state new out ≡ answered old.program old.fuel old.thread word (state old out)

-- the stop is a shared instruction, and no end
abbrev pub IsShared : Stop → Type 0
IsShared (Read cell) = Unit {0}
IsShared (Write cell value) = Unit {0}
IsShared (Update cell change) = Unit {0}
IsShared (Enter monitor) = Unit {0}
IsShared (Exit monitor) = Unit {0}
IsShared (Ended end) = ⊥

-- the stop is a shared instruction, and a word is given exactly where it reads one
abbrev pub TakesWord : Stop → Option ℕ → Type 0
TakesWord (Read cell) (Some word) = Unit {0}
TakesWord (Read cell) None = ⊥
TakesWord (Write cell value) (Some word) = ⊥
TakesWord (Write cell value) None = Unit {0}
TakesWord (Update cell change) (Some word) = Unit {0}
TakesWord (Update cell change) None = ⊥
TakesWord (Enter monitor) (Some word) = ⊥
TakesWord (Enter monitor) None = Unit {0}
TakesWord (Exit monitor) (Some word) = ⊥
TakesWord (Exit monitor) None = Unit {0}
TakesWord (Ended end) word = ⊥

-- the cell is one of the program's, which are no more than the limit
abbrev pub IsCell : Listing → ℕ → Type 0
IsCell p cell = (cell < cell_count p.decls) × (cell < cell_limit)

-- the monitor is one of the program's, which are no more than the limit
abbrev pub IsMonitor : Listing → ℕ → Type 0
IsMonitor p monitor = (monitor < length p.monitors) × (monitor < monitor_limit)

-- the cell or the monitor that a stop names is one of the program's
abbrev pub NamesCell : Listing → Stop → Type 0
NamesCell p (Read cell) = IsCell p cell
NamesCell p (Write cell value) = IsCell p cell
NamesCell p (Update cell change) = IsCell p cell
NamesCell p (Enter monitor) = IsMonitor p monitor
NamesCell p (Exit monitor) = IsMonitor p monitor
NamesCell p (Ended end) = Unit {0}

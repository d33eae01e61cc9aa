-- What the status of a call tells of the answer.
use Rattle.std.specs.Prelude.{ℕ, List, Option, Some, None}
use Rattle.stride_base.specs.Devices.{Adds, AddsFront}
use Rattle.command_words.specs.Words.{Word}
use Rattle.stride_cli.specs.declared.status.Status.{Status}
use Rattle.stride_cli.specs.declared.status.Status.TheVariants.{Done, NoLinkage, ReadFault, WriteFault, NoMemory}
use Rattle.stride_cli.specs.declared.words.Command.{Command}
use Rattle.stride_cli.specs.declared.words.Command.TheVariants.{Check, Demo, Follow, Infer, Replay, Show, Sim, Upgrade}
use Rattle.stride_cli.specs.Answers.{Answer, IsAnswer, done, refused}
use Rattle.stride_cli.specs.Statuses.{fault_seen}

-- the report of an answer, and what became of it
abbrev pub ReportedBy : (Answer → Type 0) → (List ℕ → Type 0) → Type 0
ReportedBy IsAnswered Put = (report : List ℕ) × (IsAnswered (done report) × Put report)

-- what a status tells of the answer, where these are the answers, and the sink told first these bytes and then those: the
-- answer is this very status; where it is done, its whole report was put, and where that failed, a prefix of the report. A
-- fault of reading and want of memory tell nothing
abbrev pub TellsBy : (Answer → Type 0) → Option (List ℕ) → Option (List ℕ) → Status → Type 0
TellsBy IsAnswered old new ReadFault = Unit {0}
TellsBy IsAnswered old new NoMemory = Unit {0}
TellsBy IsAnswered old new Done = ReportedBy IsAnswered (Adds old new)
TellsBy IsAnswered old new WriteFault = ReportedBy IsAnswered (AddsFront old new)
TellsBy IsAnswered old new (NoLinkage fault) = IsAnswered (refused (NoLinkage (fault_seen fault)))
TellsBy IsAnswered old new status = IsAnswered (refused status)

-- the same of the commands that start no thread
abbrev pub Tells : List Word → List ℕ → Option (List ℕ) → Option (List ℕ) → Status → Type 0
Tells words bytes old new status = TellsBy (IsAnswer words bytes) old new status

-- a fact where memory didn't run out
abbrev pub OnMemory : Status → Type 0 → Type 0
OnMemory NoMemory fact = Unit {0}
OnMemory given fact = fact

-- a fact where the whole report was put
abbrev pub OnDone : Status → Type 0 → Type 0
OnDone Done fact = fact
OnDone given fact = Unit {0}

-- a fact where the report could not be put whole
abbrev pub OnWriteFault : Status → Type 0 → Type 0
OnWriteFault WriteFault fact = fact
OnWriteFault given fact = Unit {0}

-- a fact where the input could not be read
abbrev pub OnReadFault : Status → Type 0 → Type 0
OnReadFault ReadFault fact = fact
OnReadFault given fact = Unit {0}

-- a fact where nothing was put: after each status but the two that come after the report
abbrev pub OnRefusal : Status → Type 0 → Type 0
OnRefusal Done fact = Unit {0}
OnRefusal WriteFault fact = Unit {0}
OnRefusal given fact = fact

-- a fact about the number of a demonstration
abbrev pub OnDemo : Option Command → (ℕ → Type 0) → Type 0
OnDemo (Some (Demo number)) Holds = Holds number
OnDemo (Some Check) Holds = Unit {0}
OnDemo (Some Follow) Holds = Unit {0}
OnDemo (Some Sim) Holds = Unit {0}
OnDemo (Some Show) Holds = Unit {0}
OnDemo (Some Upgrade) Holds = Unit {0}
OnDemo (Some Infer) Holds = Unit {0}
OnDemo (Some Replay) Holds = Unit {0}
OnDemo None Holds = Unit {0}

-- What `run` promises of every program that is accepted, however its threads interleave; and a demonstration of its own.
use Rattle.std.specs.Prelude.{◌≡◌, ◌≤◌, ◌+◌, ◌*◌, ℕ, true, List, Option, Some, Ok, length}
use Rattle.stride_base.specs.Devices.{Adds, AddsFront, Rose}
use Rattle.stride_base.specs.declared.limits.TheConstants.{INPUT_LIMIT}
use Rattle.stride_isa.specs.Listing.{Listing}
use Rattle.stride_isa.specs.Validity.{IsValid}
use Rattle.sc_machine.specs.Machine.{Machine}
use Rattle.interleavings.specs.Recording.{IsRecording, Recording}
use Rattle.command_words.specs.Words.{OfLine, Word}
use Rattle.command_words.specs.declared.settings.Command.TheVariants.{Demo, Run}
use Rattle.command_words.specs.declared.settings.Settings.{Settings}
use Rattle.demo.specs.Demo.{demo_program}
use Rattle.assembler.specs.Programs.{spelled}
use Rattle.history_laws.specs.RecordedRuns.{IsReplayOf, IsScheduleOf}
use Rattle.stride_cli.specs.declared.status.Status.{Status}
use Rattle.stride_cli.specs.declared.status.Status.TheVariants.{Done, NoMemory, ReadFault, WriteFault}
use Rattle.stride_cli.specs.declared.words.Live.{Live}
use Rattle.stride_cli.specs.declared.words.Live.TheVariants as lives
use Rattle.stride_cli.specs.Answers.{setting_of}
use Rattle.stride_cli.specs.Reports.{replay_report, summary_report}
use Rattle.stride_cli.specs.Settings.{Limits, demo_limits, limits_of}

-- how many looks at events, at their links and at sorted writes are enough to link so many events and to find their schedule
abbrev pub look_limit : ℕ → ℕ
look_limit events = 128 * (events + 1)

-- the report is that of the replay of a recording, where this is what is reported of a schedule and the machine at the end of its run,
-- and so many looks were counted first and so many then
pub record IsRecordedRun (limits : Limits) (p : Listing) (report_of : List ℕ → Machine → List ℕ) (report : List ℕ) (before after : ℕ) : Type 0 where
  -- what the program's threads left, which ran beside each other: the log, the output and the end of each, and the last values of
  -- the cells
  pub recording : Recording
  -- some history of single steps at the shared words left it, whichever steps the threads made first
  pub recorded : IsRecording (setting_of limits p) recording
  -- a list of thread numbers, one for each read, write, update, and entry into and exit from a monitor
  pub schedule : List ℕ
  -- it is the least that agrees with the recording's logs, and follows from the program and the logs alone
  pub inferred : IsScheduleOf (setting_of limits p) recording schedule
  -- the sequentially consistent machine at the end of the schedule's run
  pub machine : Machine
  -- in this run, in which each turn could be taken, each thread makes exactly its recorded reads, writes, updates, entries and
  -- exits, and has its recorded output and end; its lines of the transcript are its recorded output, byte for byte; and each cell
  -- is left with its recorded last value
  pub replay : IsReplayOf (setting_of limits p) recording recorded.steps schedule machine
  -- the report is that of this run
  pub reported : report ≡ report_of schedule machine
  -- the schedule was found within a number of looks that grows with its own length alone
  pub found : after ≤ before + look_limit (length schedule)

-- the world as a call finds it, and as it leaves it
pub record World : Type 0 where
  -- the bytes that were put into the sink, where it tells them
  pub held : Option (List ℕ)
  -- how many faults the sink has met
  pub sink_faults : ℕ
  -- how many faults the source has met
  pub source_faults : ℕ
  -- how many looks at events, links and sorted writes were counted
  pub looks : ℕ

-- the report of the replay of a recording was put so
pub record HasPut (limits : Limits) (p : Listing) (report_of : List ℕ → Machine → List ℕ) (before after : World) (Put : List ℕ → Type 0) : Type 0 where
  pub report : List ℕ
  pub run : IsRecordedRun limits p report_of report before.looks after.looks
  pub put : Put report

-- what a call has done when it ends with a status, where it records this valid program: it is done, and has put the whole report; or
-- the sink met a fault, and holds a prefix of the report; or the source met a fault; or memory ran out. It ends in no other way
abbrev pub KeepsPromise : Limits → Listing → (List ℕ → Machine → List ℕ) → World → World → Status → Type 0
KeepsPromise limits p report_of before after Done = HasPut limits p report_of before after (Adds before.held after.held)
KeepsPromise limits p report_of before after WriteFault = Rose before.sink_faults after.sink_faults × HasPut limits p report_of before after (AddsFront before.held after.held)
KeepsPromise limits p report_of before after ReadFault = Rose before.source_faults after.source_faults
KeepsPromise limits p report_of before after NoMemory = Unit {0}
KeepsPromise limits p report_of before after status = ⊥

-- the promise is kept with these limits, where the source has these bytes left: they are no more than an input may have, and spell a
-- valid program
abbrev pub IsKept : Limits → Option (List ℕ) → World → World → Status → Type 0
IsKept limits left before after status =
    (bytes : List ℕ) (p : Listing) → left ≡ Some bytes → length bytes ≤ INPUT_LIMIT → spelled bytes ≡ Ok p → IsValid p → KeepsPromise limits p replay_report before after status

-- where the settings name `run`, the promise is kept with their limits
abbrev pub IsKeptBy : Settings → Option (List ℕ) → World → World → Status → Type 0
IsKeptBy settings left before after status = settings.command ≡ Run → IsKept (limits_of settings) left before after status

-- the same of a call with these words, where they are a line of the grammar
abbrev pub Headline : List Word → Option (List ℕ) → World → World → Status → Type 0
Headline words left before after status = OfLine words (λ settings. IsKeptBy settings left before after status)

-- a demonstration whose threads run beside each other keeps the promise with its program, and its report is the summary
abbrev pub IsDemoKept : ℕ → World → World → Status → Type 0
IsDemoKept number before after status = KeepsPromise demo_limits (demo_program number) (summary_report (demo_program number)) before after status

-- where the settings name such a demonstration, the promise is kept
abbrev pub IsDemoKeptBy : Settings → World → World → Status → Type 0
IsDemoKeptBy settings before after status = (number : ℕ) → settings.command ≡ Demo number true → IsDemoKept number before after status

-- the same of a call with these words, where they are a line of the grammar
abbrev pub DemoHeadline : List Word → World → World → Status → Type 0
DemoHeadline words before after status = OfLine words (λ settings. IsDemoKeptBy settings before after status)

-- a live command keeps its promise; of `bundle` it says nothing
abbrev pub IsLiveKept : Limits → Live → Option (List ℕ) → World → World → Status → Type 0
IsLiveKept limits lives.Run left before after status = IsKept limits left before after status
IsLiveKept limits lives.Bundle left before after status = Unit {0}
IsLiveKept limits (lives.Demo number) left before after status = IsDemoKept number before after status

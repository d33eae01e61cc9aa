-- What the program answers to words and bytes where threads run beside each other: an answer for each recording that they can leave.
use Rattle.std.specs.Prelude.{◌≡◌, ◌≤◌, ℕ, List, length, nat_lt, Option, Some, None, Ok}
use Rattle.std.specs.Bool.{MatchBool}
use Rattle.stride_base.specs.declared.limits.TheConstants.{INPUT_LIMIT}
use Rattle.stride_isa.specs.Listing.{Listing}
use Rattle.sc_machine.specs.Machine.{Machine}
use Rattle.sc_machine.specs.Schedule.{replayed}
use Rattle.interleavings.specs.Recording.{IsRecording, Recording}
use Rattle.demo.specs.Demo.{demo_program}
use Rattle.assembler.specs.Canonical.{canonical}
use Rattle.assembler.specs.Programs.{spelled}
use Rattle.command_words.specs.Words.{Word}
use Rattle.command_words.specs.declared.settings.Settings.{Settings}
use Rattle.log_format.specs.Bundles.{Bundled, IsInRange}
use Rattle.log_format.specs.Spelling.{spelling}
use Rattle.log_format.specs.declared.version.Version.TheVariants.{Two}
use Rattle.history_laws.specs.RecordedRuns.{IsScheduleOf}
use Rattle.stride_cli.specs.declared.status.Status.TheVariants.{TooLong}
use Rattle.stride_cli.specs.declared.words.Live.{Live}
use Rattle.stride_cli.specs.declared.words.Live.TheVariants.{Bundle, Demo, Run}
use Rattle.stride_cli.specs.Answers.{Answer, AnswersSettings, AnswersText, AnswersWords, done, refused, setting_of}
use Rattle.stride_cli.specs.Reports.{replay_report, summary_report}
use Rattle.stride_cli.specs.Settings.{Limits, limits_of, demo_limits}
use Rattle.stride_cli.specs.Words.{live_named, given, live_reads}

-- the answer to a valid program is the run of a recording of it, by the schedule that is inferred from the recording's logs, where this
-- is what is reported of a schedule and the machine at the end of its run
pub record AnswersLiveRun (limits : Limits) (p : Listing) (report_of : List ℕ → Machine → List ℕ) (answer : Answer) : Type 0 where
  pub recording : Recording
  pub recorded : IsRecording (setting_of limits p) recording
  pub schedule : List ℕ
  pub inferred : IsScheduleOf (setting_of limits p) recording schedule
  pub machine : Machine
  pub runs : replayed p limits.fuel schedule ≡ Some machine
  pub shows : answer ≡ done (report_of schedule machine)

-- the bundle of a recording: the fuel, the program's canonical text and the recording's logs
abbrev pub bundle_of : Limits → Listing → Recording → Bundled
bundle_of limits p recording = record { fuel = limits.fuel; text = canonical p; logs = recording.logs }

-- what `bundle` answers to a valid program: the spelling in version 2 of the bundle of a recording of it. The version can hold the
-- bundle, the spelling is no more than an input may have, and its text spells the program
pub record AnswersLiveBundle (limits : Limits) (p : Listing) (answer : Answer) : Type 0 where
  pub recording : Recording
  pub recorded : IsRecording (setting_of limits p) recording
  pub fits : IsInRange Two (bundle_of limits p recording)
  pub short : length (spelling Two (bundle_of limits p recording)) ≤ INPUT_LIMIT
  pub text : spelled (canonical p) ≡ Ok p
  pub shows : answer ≡ done (spelling Two (bundle_of limits p recording))

-- what a live command answers to a valid program
abbrev pub AnswersLive : Limits → Live → Listing → Answer → Type 0
AnswersLive limits Run p answer = AnswersLiveRun limits p replay_report answer
AnswersLive limits Bundle p answer = AnswersLiveBundle limits p answer
AnswersLive limits (Demo number) p answer = AnswersLiveRun demo_limits p (summary_report p) answer

-- the answer of a live command to an input within the limit; a demonstration has its own program
abbrev pub AnswersLiveInput : Limits → Live → List ℕ → Answer → Type 0
AnswersLiveInput limits Run bytes answer = AnswersText bytes (AnswersLive limits Run) answer
AnswersLiveInput limits Bundle bytes answer = AnswersText bytes (AnswersLive limits Bundle) answer
AnswersLiveInput limits (Demo number) bytes answer = AnswersLive limits (Demo number) (demo_program number) answer

-- the answer of a live command to an input of any length, of which it may read nothing
abbrev pub AnswersLiveBytes : Limits → Live → List ℕ → Answer → Type 0
AnswersLiveBytes limits live bytes answer =
    MatchBool (nat_lt INPUT_LIMIT (length (given (live_reads live) bytes))) (answer ≡ refused TooLong) (AnswersLiveInput limits live (given (live_reads live) bytes) answer)

-- the answer of the live command, if the settings name one; others are answered as without threads
abbrev pub AnswersNamed : Option Live → List ℕ → Settings → Answer → Type 0
AnswersNamed None bytes settings answer = AnswersSettings bytes settings answer
AnswersNamed (Some live) bytes settings answer = AnswersLiveBytes (limits_of settings) live bytes answer

-- an answer to settings and the bytes of the input, where threads may run beside each other
abbrev pub AnswersLiveSettings : List ℕ → Settings → Answer → Type 0
AnswersLiveSettings bytes settings answer = AnswersNamed (live_named settings.command) bytes settings answer

-- an answer to the words and the bytes of the input, where threads may run beside each other
abbrev pub IsStrideAnswer : List Word → List ℕ → Answer → Type 0
IsStrideAnswer words bytes answer = AnswersWords (AnswersLiveSettings bytes) words answer

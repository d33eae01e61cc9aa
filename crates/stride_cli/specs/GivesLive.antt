-- What a live command that has read its input comes to. Only private clauses cite this module.
use Rattle.std.specs.Prelude.{◌≡◌, ℕ, List, Result, Ok, Err}
use Rattle.stride_base.specs.Listed.{Listed}
use Rattle.stride_isa.specs.Listing.{Listing}
use Rattle.stride_isa.specs.Validity.{IsValid}
use Rattle.demo.specs.Demo.{demo_program}
use Rattle.assembler.specs.Programs.{spelled}
use Rattle.stride_cli.specs.declared.refusal.Refusal.{Refusal}
use Rattle.stride_cli.specs.declared.refusal.Refusal.TheVariants.{NoMemory, Program}
use Rattle.stride_cli.specs.declared.status.Status.TheVariants as statuses
use Rattle.stride_cli.specs.declared.words.Live.{Live}
use Rattle.stride_cli.specs.declared.words.Live.TheVariants.{Bundle, Demo, Run}
use Rattle.stride_cli.specs.Answers.{done, refused}
use Rattle.stride_cli.specs.Headline.{IsRecordedRun}
use Rattle.stride_cli.specs.LiveAnswers.{AnswersLiveInput}
use Rattle.stride_cli.specs.Reports.{replay_report, summary_report}
use Rattle.stride_cli.specs.Settings.{Limits, demo_limits}

-- the refusal is the live command's answer; want of memory says nothing, and nothing but the program is refused
abbrev pub RefusesLive : Limits → Live → List ℕ → Refusal → Type 0
RefusesLive limits live bytes NoMemory = Unit {0}
RefusesLive limits live bytes (Program fault) = AnswersLiveInput limits live bytes (refused (statuses.Program fault))
RefusesLive limits live bytes refusal = ⊥

-- the report of the answer, or its refusal
abbrev pub GivesLive : Result (Listed ℕ) Refusal → Limits → Live → List ℕ → Type 0
GivesLive (Ok report) limits live bytes = AnswersLiveInput limits live bytes (done report.items)
GivesLive (Err refusal) limits live bytes = RefusesLive limits live bytes refusal

-- the report is that of the replay of a recording of the valid program that the bytes spell
pub record IsRunOf (limits : Limits) (bytes report : List ℕ) (before after : ℕ) : Type 0 where
  pub program : Listing
  pub spells : spelled bytes ≡ Ok program
  pub valid : IsValid program
  pub run : IsRecordedRun limits program replay_report report before after

-- the report is that of a recording which the live command made; of `bundle` it says nothing
abbrev pub IsReportOf : Limits → Live → List ℕ → List ℕ → ℕ → ℕ → Type 0
IsReportOf limits Run bytes report before after = IsRunOf limits bytes report before after
IsReportOf limits Bundle bytes report before after = Unit {0}
IsReportOf limits (Demo number) bytes report before after = IsRecordedRun demo_limits (demo_program number) (summary_report (demo_program number)) report before after

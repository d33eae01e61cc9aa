-- What holds of the answers to words and bytes.
use Rattle.std.specs.Prelude.{◌≡◌, ℕ, List, Ok, None, length}
use Rattle.stride_isa.specs.Listing.{Listing}
use Rattle.stride_isa.specs.Validity.{IsValid}
use Rattle.interleavings.specs.Driving.{driven, stranger, whole_run}
use Rattle.interleavings.specs.Following.{Followed, follow_all}
use Rattle.interleavings.specs.Recording.{IsFollowed}
use Rattle.command_words.specs.Words.{OfLine, Word}
use Rattle.command_words.specs.declared.settings.Command.TheVariants.{Replay, Sim}
use Rattle.log_format.specs.Bundles.{Bundled}
use Rattle.log_format.specs.Reading.{reading}
use Rattle.assembler.specs.Programs.{spelled}
use Rattle.event_order.specs.DirectOrder.{LinkRows}
use Rattle.event_order.specs.Laws.{RunsAsFollowed}
use Rattle.stride_cli.specs.Answers.{Answer, IsAnswer, done, order_of, program_part, setting_of}
use Rattle.stride_cli.specs.Reports.{replay_report, sim_report}
use Rattle.stride_cli.specs.Settings.{Limits, limits_of}

-- words and bytes have an answer
abbrev pub AnAnswer : Type 0
AnAnswer = (words : List Word) (bytes : List ℕ) → (answer : Answer) × IsAnswer words bytes answer

-- words and bytes have one answer at most
abbrev pub OneAnswer : Type 0
OneAnswer = (words : List Word) (bytes : List ℕ) (answer other : Answer) → IsAnswer words bytes answer → IsAnswer words bytes other → answer ≡ other

-- the bytes are a bundle of a valid program whose threads follow their logs, and the report tells of a schedule and its run on
-- the sequentially consistent machine, in which each thread makes exactly the reads, writes, updates and turns of monitors that
-- following its log gives, and is left with the output and the end that its log gives
pub record IsReplayed (bytes report : List ℕ) : Type 0 where
  pub bundle : Bundled
  pub reads : reading bytes ≡ Ok bundle
  pub program : Listing
  pub spells : spelled bundle.text ≡ Ok program
  pub valid : IsValid program
  pub all : List Followed
  pub follows : follow_all program bundle.fuel bundle.logs ≡ Ok all
  pub schedule : List ℕ
  pub run : RunsAsFollowed program bundle.fuel all schedule
  pub shows : report ≡ replay_report schedule run.machine

-- the bytes are a valid program with an order that names its threads alone; the report tells of the logs of the recording that the
-- order gives, of the links of its events, and of a schedule and its run on the sequentially consistent machine, in which each
-- thread makes exactly the events that the steps of the recording finished, and is left with its recorded output and end
pub record IsSimulated (limits : Limits) (bytes report : List ℕ) : Type 0 where
  pub program : Listing
  pub spells : spelled (program_part bytes) ≡ Ok program
  pub valid : IsValid program
  pub order : List ℕ
  pub ordered : order_of bytes ≡ Ok order
  pub known : stranger (length program.threads) order ≡ None
  pub followed : IsFollowed (setting_of limits program) (driven (setting_of limits program) order) (whole_run (setting_of limits program) order).steps
  pub links : LinkRows
  pub schedule : List ℕ
  pub run : RunsAsFollowed program limits.fuel followed.followed schedule
  pub shows : report ≡ sim_report (driven (setting_of limits program) order).logs links schedule run.machine

-- whatever bytes `sim` is done with, it reports such a recording with the limits that the words set, and its run
abbrev pub SimulationsAreRuns : Type 0
SimulationsAreRuns = (words : List Word) (bytes report : List ℕ) → IsAnswer words bytes (done report) → OfLine words (λ settings. settings.command ≡ Sim → IsSimulated (limits_of settings) bytes report)

-- whatever bytes `replay` is done with, it reports such a run
abbrev pub ReplaysAreRuns : Type 0
ReplaysAreRuns = (words : List Word) (bytes report : List ℕ) → IsAnswer words bytes (done report) → OfLine words (λ settings. settings.command ≡ Replay → IsReplayed bytes report)

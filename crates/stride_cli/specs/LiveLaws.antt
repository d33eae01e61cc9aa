-- What holds of the answers of commands whose threads run beside each other.
use Rattle.std.specs.Prelude.{◌≡◌, ℕ, List, Ok}
use Rattle.stride_isa.specs.Listing.{Listing}
use Rattle.stride_isa.specs.Validity.{IsValid}
use Rattle.sc_machine.specs.Machine.{Machine}
use Rattle.interleavings.specs.Recording.{IsRecording, Recording}
use Rattle.assembler.specs.Programs.{spelled}
use Rattle.command_words.specs.Words.{OfLine, Word}
use Rattle.command_words.specs.declared.settings.Command.TheVariants.{Bundle, Infer, Replay}
use Rattle.log_format.specs.Reading.{reading}
use Rattle.history_laws.specs.RecordedRuns.{IsReplayOf, IsScheduleOf}
use Rattle.stride_cli.specs.declared.status.Status.TheVariants.{Done}
use Rattle.stride_cli.specs.Answers.{Answer, IsAnswer, done, setting_of}
use Rattle.stride_cli.specs.LiveAnswers.{IsStrideAnswer, bundle_of}
use Rattle.stride_cli.specs.Reports.{replay_report}
use Rattle.stride_cli.specs.Settings.{Limits, limits_of}

-- the answer is the report of the replay of this recording: of the schedule that is inferred from its logs, and of the run by this
-- schedule, in which each thread makes exactly its recorded events, and its lines of the transcript are its recorded output
pub record IsReplayed (limits : Limits) (p : Listing) (recording : Recording) (recorded : IsRecording (setting_of limits p) recording) (answer : Answer) : Type 0 where
  pub schedule : List ℕ
  pub inferred : IsScheduleOf (setting_of limits p) recording schedule
  pub machine : Machine
  pub replay : IsReplayOf (setting_of limits p) recording recorded.steps schedule machine
  pub shows : answer ≡ done (replay_report schedule machine)

-- the bytes are the bundle of a recording of this program, and not refused: `infer` is done with them, and `replay` with the replay of
-- the recording
pub record HoldsRecording (limits : Limits) (p : Listing) (bytes : List ℕ) : Type 0 where
  pub recording : Recording
  pub recorded : IsRecording (setting_of limits p) recording
  pub reads : reading bytes ≡ Ok (bundle_of limits p recording)
  pub inferred : (words : List Word) (answer : Answer) → IsAnswer words bytes answer → OfLine words (λ settings. settings.command ≡ Infer → answer.status ≡ Done)
  pub replayed : (words : List Word) (answer : Answer) → IsAnswer words bytes answer → OfLine words (λ settings. settings.command ≡ Replay → IsReplayed limits p recording recorded answer)

-- the same of the program that an input spells
pub record HoldsProgram (limits : Limits) (input bytes : List ℕ) : Type 0 where
  pub program : Listing
  pub spells : spelled input ≡ Ok program
  pub valid : IsValid program
  pub holds : HoldsRecording limits program bytes

-- whatever `bundle` is done with is such a bundle, of the program that its input spells
abbrev pub BundlesAreReplayed : Type 0
BundlesAreReplayed = (words : List Word) (input bytes : List ℕ) → IsStrideAnswer words input (done bytes) → OfLine words (λ settings. settings.command ≡ Bundle → HoldsProgram (limits_of settings) input bytes)

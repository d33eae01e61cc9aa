-- What the program answers to words and bytes: the exit status with its details, and the report.
use Rattle.std.specs.Prelude.{◌≡◌, ◌⊎◌, ℕ, List, [], length, take, drop, slice_index, nat_lt, if◌then◌else◌, Option, Some, None, Result, Ok, Err, unwrap_or}
use Rattle.std.specs.Bool.{MatchBool}
use Rattle.stride_isa.specs.Faults.{Fault, IsVerdict}
use Rattle.stride_isa.specs.Listing.{Listing}
use Rattle.sc_machine.specs.Machine.{Machine}
use Rattle.sc_machine.specs.Schedule.{refused_place, replayed}
use Rattle.interleavings.specs.declared.traces.Place.{Place}
use Rattle.interleavings.specs.Driving.{driven, stranger}
use Rattle.interleavings.specs.Recording.{Recording, Setting}
use Rattle.demo.specs.Demo.{demo_order, demo_program}
use Rattle.log_format.specs.Bundles.{Bundled}
use Rattle.log_format.specs.Reading.{reading, Refusal as FormatRefusal}
use Rattle.log_format.specs.Spelling.{spelling}
use Rattle.log_format.specs.declared.version.Version.TheVariants.{Two}
use Rattle.stride_base.specs.declared.limits.TheConstants.{INPUT_LIMIT}
use Rattle.assembler.specs.Canonical.{canonical}
use Rattle.assembler.specs.CodeLines.{code_line}
use Rattle.assembler.specs.Orders.{order_spelled}
use Rattle.assembler.specs.Programs.{LineFault, spelled}
use Rattle.assembler.specs.Splits.{split}
use Rattle.command_words.specs.Words.{IsLine, IsNoLine, Word}
use Rattle.command_words.specs.declared.settings.Settings.{Settings}
use Rattle.linkage.specs.declared.link_error.LinkError.{LinkError}
use Rattle.linkage.specs.declared.link_error.LinkError.TheVariants as links
use Rattle.stride_cli.specs.declared.words.Command.{Command}
use Rattle.stride_cli.specs.declared.words.Command.TheVariants.{Check, Demo, Follow, Infer, Replay, Show, Sim, Upgrade}
use Rattle.stride_cli.specs.declared.status.LinkageFault.TheVariants as faults
use Rattle.stride_cli.specs.declared.status.MemberFault.{MemberFault}
use Rattle.stride_cli.specs.declared.status.MemberFault.TheVariants.{NoThread, CannotGoOn}
use Rattle.stride_cli.specs.declared.status.Status.{Status}
use Rattle.stride_cli.specs.declared.status.Status.TheVariants.{Done, Usage, TooLong, Program, Bundle, Diverges, NoLinkage, NoMemory, NotEnabled}
use Rattle.stride_cli.specs.declared.status.ProgramFault.TheVariants.{Text, Code}
use Rattle.stride_cli.specs.Inferring.{Inference, Unlinked, Circular, Diverging, Ordered, Inferred, IsInferred}
use Rattle.stride_cli.specs.Reports.{follow_report, infer_report, replay_report, show_report, sim_report, summary_report}
use Rattle.stride_cli.specs.Settings.{demo_limits, Limits, limits_of}
use Rattle.stride_cli.specs.Words.{given, reads, offline_named}

-- how a command ends, and what it puts
pub record Answer : Type 0 where
  pub status : Status
  pub report : List ℕ

-- a refusal, which has the empty report
abbrev pub refused : Status → Answer
refused status = record { status = status; report = [] }

-- a command that is done, with its report
abbrev pub done : List ℕ → Answer
done report = record { status = Done; report = report }

-- why a member of an order can take no turn, where the program has so many threads: it names none of them, or one that has
-- ended or waits for a monitor
abbrev pub member_fault : ℕ → ℕ → MemberFault
member_fault threads member = if nat_lt member threads then CannotGoOn else NoThread

-- the refusal of an order at the place of a member that can take no turn
abbrev pub refused_member : Listing → List ℕ → ℕ → Answer
refused_member p order place = refused (NotEnabled place (member_fault (length p.threads) (slice_index order place)))

-- a run is reported; where there is none, the order is refused
abbrev pub played : Option Machine → Answer → Answer
played (Some m) refusal = done (follow_report m)
played None refusal = refusal

-- a refusal of a text or of an order, for its first fault
abbrev pub refused_text : LineFault → Answer
refused_text fault = refused (Program (Text fault.kind fault.line))

-- a refusal of the program that a text spells, for its first fault, with the line of the text on which it is
abbrev pub refused_code : List ℕ → Fault → Answer
refused_code text fault =
    refused (Program (Code fault.kind (code_line text fault.thread fault.instruction) fault.thread fault.instruction))

-- the bytes before the line `order`
abbrev pub program_part : List ℕ → List ℕ
program_part bytes = take (split bytes).program_end bytes

-- the bytes after the line `order`
abbrev pub order_part : List ℕ → List ℕ
order_part bytes = drop (split bytes).order_start bytes

-- what `follow` answers to an accepted program with an order: its run, or the refusal of the first member that can take no turn
abbrev pub followed : Limits → Listing → List ℕ → Answer
followed limits p order = played (replayed p limits.fuel order) (refused_member p order (unwrap_or (refused_place p limits.fuel order) 0))

-- how a program is recorded
abbrev pub setting_of : Limits → Listing → Setting
setting_of limits p = record { program = p; fuel = limits.fuel; patience = limits.patience }

-- what `check` answers to an accepted program
abbrev pub AnswersCanonical : Listing → Answer → Type 0
AnswersCanonical p answer = answer ≡ done (canonical p)

-- what `follow` answers to an accepted program with an order
abbrev pub AnswersFollowed : Limits → Listing → List ℕ → Answer → Type 0
AnswersFollowed limits p order answer = answer ≡ followed limits p order

-- what the order of an input spells
abbrev pub order_of : List ℕ → Result (List ℕ) LineFault
order_of bytes = order_spelled (split bytes).order_line (order_part bytes)

-- what `show` answers to what the bytes read as
abbrev pub shown : Result Bundled FormatRefusal → Answer
shown (Ok bundle) = done (show_report bundle)
shown (Err refusal) = refused (Bundle refusal.kind refusal.offset)

-- what `upgrade` answers to what the bytes read as: the same bundle in version 2
abbrev pub upgraded : Result Bundled FormatRefusal → Answer
upgraded (Ok bundle) = done (spelling Two bundle)
upgraded (Err refusal) = refused (Bundle refusal.kind refusal.offset)

-- the status of a refusal of links; want of memory is none of them
abbrev pub unlinked : LinkError → Status
unlinked (links.TwiceWritten cell number) = NoLinkage (faults.TwiceWritten cell number)
unlinked (links.WriteGap cell number) = NoLinkage (faults.WriteGap cell number)
unlinked (links.TwiceTurned monitor turn) = NoLinkage (faults.TwiceTurned monitor turn)
unlinked (links.TurnGap monitor turn) = NoLinkage (faults.TurnGap monitor turn)
unlinked (links.BoundTooLarge at) = NoLinkage (faults.BoundTooLarge at)
unlinked (links.NoEqualWrite at) = NoLinkage (faults.NoEqualWrite at)
unlinked (links.UpdateMismatch at) = NoLinkage (faults.UpdateMismatch at)
unlinked links.NoMemory = NoMemory

-- the status of a cycle, whose list has no room to spare
abbrev pub circular : List Place → Status
circular places = NoLinkage (faults.Cycle (record { items = places; spare = 0 }))

-- what `infer` answers to links with a schedule
abbrev pub AnswersLinks : Listing → Bundled → Inferred → Answer → Type 0
AnswersLinks p bundle inferred answer = answer ≡ done (infer_report inferred.links inferred.schedule)

-- what `replay` answers to them: the report of the run by the schedule, of which there is one
pub record AnswersRun (p : Listing) (bundle : Bundled) (inferred : Inferred) (answer : Answer) : Type 0 where
  pub machine : Machine
  pub runs : replayed p bundle.fuel inferred.schedule ≡ Some machine
  pub shows : answer ≡ done (replay_report inferred.schedule machine)

-- the answer by what logs come to, where this is what is answered to links with a schedule
abbrev pub AnswersInference : (Inferred → Answer → Type 0) → Inference → Answer → Type 0
AnswersInference Shows (Diverging divergence) answer = answer ≡ refused (Diverges divergence.thread divergence.place)
AnswersInference Shows (Unlinked refusal) answer = answer ≡ refused (unlinked refusal)
AnswersInference Shows (Circular cycle) answer = answer ≡ refused (circular cycle)
AnswersInference Shows (Ordered inferred) answer = Shows inferred answer

-- the answer to the logs of a bundle with a valid program
abbrev pub AnswersLogs : (Listing → Bundled → Inferred → Answer → Type 0) → Bundled → Listing → Answer → Type 0
AnswersLogs Shows bundle p answer = (inference : Inference) × (IsInferred p bundle.fuel bundle.logs inference × AnswersInference (Shows p bundle) inference answer)

-- what `sim` answers to a recording: its logs, the links and the schedule to which they come, and the run by the schedule
pub record AnswersRecording (limits : Limits) (p : Listing) (recording : Recording) (answer : Answer) : Type 0 where
  pub inferred : Inferred
  pub ordered : IsInferred p limits.fuel recording.logs (Ordered inferred)
  pub machine : Machine
  pub runs : replayed p limits.fuel inferred.schedule ≡ Some machine
  pub shows : answer ≡ done (sim_report recording.logs inferred.links inferred.schedule machine)

-- the answer to a recording; an order that names a thread which is not there is refused at the place of its first such member
abbrev pub AnswersRecorded : Limits → Listing → Option ℕ → Recording → Answer → Type 0
AnswersRecorded limits p None recording answer = AnswersRecording limits p recording answer
AnswersRecorded limits p (Some place) recording answer = answer ≡ refused (NotEnabled place NoThread)

-- what `sim` answers to an accepted program with an order
abbrev pub AnswersSimulated : Limits → Listing → List ℕ → Answer → Type 0
AnswersSimulated limits p order answer = AnswersRecorded limits p (stranger (length p.threads) order) (driven (setting_of limits p) order) answer

-- the recording of a demonstration, by its order
abbrev pub demo_recording : ℕ → Recording
demo_recording number = driven (setting_of demo_limits (demo_program number)) (demo_order number)

-- what a demonstration answers: the summary of the run by the schedule to which the logs of its recording come
pub record AnswersDemo (number : ℕ) (answer : Answer) : Type 0 where
  pub inferred : Inferred
  pub ordered : IsInferred (demo_program number) demo_limits.fuel (demo_recording number).logs (Ordered inferred)
  pub machine : Machine
  pub runs : replayed (demo_program number) demo_limits.fuel inferred.schedule ≡ Some machine
  pub shows : answer ≡ done (summary_report (demo_program number) inferred.schedule machine)

-- the answer to an order, where it is spelled, or the refusal of its first fault
abbrev pub AnswersOrder : Result (List ℕ) LineFault → (List ℕ → Answer → Type 0) → Answer → Type 0
AnswersOrder (Err fault) Answers answer = answer ≡ refused_text fault
AnswersOrder (Ok order) Answers answer = Answers order answer

-- the answer by the verdict on the program that a text spells, where this is what is answered to a valid one
abbrev pub AnswersVerdict : List ℕ → Option Fault → (Answer → Type 0) → Answer → Type 0
AnswersVerdict text (Some fault) Accepted answer = answer ≡ refused_code text fault
AnswersVerdict text None Accepted answer = Accepted answer

-- the answer to a text that spells this program, or this first fault, where this is what is answered to a valid program
abbrev pub AnswersProgram : List ℕ → Result Listing LineFault → (Listing → Answer → Type 0) → Answer → Type 0
AnswersProgram text (Err fault) Accepted answer = answer ≡ refused_text fault
AnswersProgram text (Ok p) Accepted answer = (verdict : Option Fault) × (IsVerdict p verdict × AnswersVerdict text verdict (Accepted p) answer)

-- the answer to a text, by what it spells
abbrev pub AnswersText : List ℕ → (Listing → Answer → Type 0) → Answer → Type 0
AnswersText text Accepted answer = AnswersProgram text (spelled text) Accepted answer

-- the answer to what bytes read as, where this is what is answered to links with a schedule
abbrev pub AnswersBundle : (Listing → Bundled → Inferred → Answer → Type 0) → Result Bundled FormatRefusal → Answer → Type 0
AnswersBundle Shows (Err refusal) answer = answer ≡ refused (Bundle refusal.kind refusal.offset)
AnswersBundle Shows (Ok bundle) answer = AnswersText bundle.text (AnswersLogs Shows bundle) answer

-- the answer of a command to an input within the limit
abbrev pub AnswersInput : Limits → Command → List ℕ → Answer → Type 0
AnswersInput limits Check bytes answer = AnswersText bytes AnswersCanonical answer
AnswersInput limits Follow bytes answer = AnswersText (program_part bytes) (λ p. AnswersOrder (order_of bytes) (AnswersFollowed limits p)) answer
AnswersInput limits Sim bytes answer = AnswersText (program_part bytes) (λ p. AnswersOrder (order_of bytes) (AnswersSimulated limits p)) answer
AnswersInput limits Show bytes answer = answer ≡ shown (reading bytes)
AnswersInput limits Upgrade bytes answer = answer ≡ upgraded (reading bytes)
AnswersInput limits Infer bytes answer = AnswersBundle AnswersLinks (reading bytes) answer
AnswersInput limits Replay bytes answer = AnswersBundle AnswersRun (reading bytes) answer
AnswersInput limits (Demo number) bytes answer = AnswersDemo number answer

-- the answer of a command, if there is one, to an input of any length, of which it may read nothing
abbrev pub AnswersBy : Limits → Option Command → List ℕ → Answer → Type 0
AnswersBy limits None bytes answer = answer ≡ refused Usage
AnswersBy limits (Some command) bytes answer =
    MatchBool (nat_lt INPUT_LIMIT (length (given (reads command) bytes))) (answer ≡ refused TooLong) (AnswersInput limits command (given (reads command) bytes) answer)

-- the answer to settings and the bytes of the input
abbrev pub AnswersSettings : List ℕ → Settings → Answer → Type 0
AnswersSettings bytes settings answer = AnswersBy (limits_of settings) (offline_named settings.command) bytes answer

-- the answer to words, where this is what is answered to settings: that to the settings of their line, or the refusal of words that
-- are no line of the grammar
abbrev pub AnswersWords : (Settings → Answer → Type 0) → List Word → Answer → Type 0
AnswersWords Answers words answer = ((settings : Settings) × IsLine words settings × Answers settings answer) ⊎ (IsNoLine words × (answer ≡ refused Usage))

-- the answer to the words and the bytes of the input
abbrev pub IsAnswer : List Word → List ℕ → Answer → Type 0
IsAnswer words bytes answer = AnswersWords (AnswersSettings bytes) words answer

-- What `replay` is done with is a run.
use Rattle.std.proofs.Common.{◌≡◌, ◌∙◌, ℕ, Bool, true, false, List, Option, Some, None, Result, Ok, Err, refl, sym, ap, subst, length, nat_lt}
use Rattle.std.specs.Bool.{MatchBool}
use Rattle.stride_base.specs.declared.limits.TheConstants.{INPUT_LIMIT}
use Rattle.stride_isa.specs.Faults.{Fault, IsVerdict}
use Rattle.stride_isa.specs.Listing.{Listing}
use Rattle.stride_isa.specs.Validity.{IsValid}
use Rattle.interleavings.specs.Following.{Divergence, Followed, follow_all}
use Rattle.event_order.specs.Laws.{ExtensionsAreRuns}
use Rattle.command_words.specs.Laws.{OneReading}
use Rattle.log_format.specs.Bundles.{Bundled}
use Rattle.log_format.specs.Laws.{FuelIsInRange}
use Rattle.log_format.specs.Reading.{reading, Refusal as FormatRefusal}
use Rattle.assembler.specs.Programs.{LineFault, spelled}
use Rattle.stride_cli.specs.declared.status.Status.{Status}
use Rattle.stride_cli.specs.declared.status.Status.TheVariants.{Bundle, Diverges, Done, TooLong}
use Rattle.stride_cli.specs.declared.words.Command.{Command}
use Rattle.stride_cli.specs.declared.words.Command.TheVariants.{Replay}
use Rattle.linkage.specs.declared.link_error.LinkError.{LinkError}
use Rattle.linkage.specs.declared.link_error.LinkError.TheVariants as links
use Rattle.stride_cli.specs.Answers.{Answer, AnswersBundle, AnswersBy, AnswersInference, AnswersInput, AnswersLogs, AnswersProgram, AnswersRun, AnswersSettings, AnswersVerdict, circular, done, refused, unlinked}
use Rattle.stride_cli.specs.Inferring.{Circular, Diverging, Inference, Inferred, IsInferred, IsInferredBy, Ordered, Unlinked}
use Rattle.stride_cli.specs.Laws.{IsReplayed, ReplaysAreRuns}
use Rattle.stride_cli.specs.Reports.{replay_report}
use Rattle.stride_cli.specs.Settings.{Limits, limits_of}
use Rattle.stride_cli.specs.Words.{offline_named}
use Rattle.stride_cli.proofs.LeastRuns.{least_runs}
use Rattle.stride_cli.proofs.Readings.{of_line}

-- a refusal is not done
not_done : (status : Status) (report : List ℕ) → (status ≡ Done → ⊥) → done report ≡ refused status → ⊥
not_done status report other is = other (let e = ap (λ (answer : Answer). answer.status) is in cc)

unlinked_not_done : (refusal : LinkError) → unlinked refusal ≡ Done → ⊥
unlinked_not_done (links.TwiceWritten cell number) is = cc
unlinked_not_done (links.WriteGap cell number) is = cc
unlinked_not_done (links.TwiceTurned monitor turn) is = cc
unlinked_not_done (links.TurnGap monitor turn) is = cc
unlinked_not_done (links.BoundTooLarge at) is = cc
unlinked_not_done (links.NoEqualWrite at) is = cc
unlinked_not_done (links.UpdateMismatch at) is = cc
unlinked_not_done links.NoMemory is = cc

same_report : (report other : List ℕ) → done report ≡ done other → report ≡ other
same_report report other is = ap (λ (answer : Answer). answer.report) is

some_same : {X : Type 0} {x y : X} → Some x ≡ Some y → x ≡ y
some_same e = cc

-- what the laws say of the direct order and of bundles
pub record Laws : Type 0 where
  pub runs : ExtensionsAreRuns
  pub fuel : FuelIsInRange

module _ (laws : Laws) (bytes report : List ℕ) (bundle : Bundled) (reads : reading bytes ≡ Ok bundle) where
  -- the run by the least schedule is one of the threads that were followed
  by_followed : (p : Listing) → spelled bundle.text ≡ Ok p → IsValid p → (r : Result (List Followed) Divergence) → follow_all p bundle.fuel bundle.logs ≡ r → (inferred : Inferred) → IsInferredBy p r (Ordered inferred) → AnswersRun p bundle inferred (done report) → IsReplayed bytes report
  by_followed p spells valid (Err divergence) follows inferred ordered is = absurd (cc)
  by_followed p spells valid (Ok all) follows inferred ordered is =
      let run = least_runs laws.runs p valid bundle.fuel (laws.fuel bytes bundle reads).0 bundle.logs all follows inferred ordered in
      let same : is.machine ≡ run.machine = some_same (sym is.runs ∙ run.runs) in
      record {
        bundle = bundle;
        reads = reads;
        program = p;
        spells = spells;
        valid = valid;
        all = all;
        follows = follows;
        schedule = inferred.schedule;
        run = run;
        shows = same_report report (replay_report inferred.schedule is.machine) is.shows ∙ ap (replay_report inferred.schedule) same;
      }

  by_inference : (p : Listing) → spelled bundle.text ≡ Ok p → IsValid p → (inference : Inference) → IsInferred p bundle.fuel bundle.logs inference → AnswersInference (AnswersRun p bundle) inference (done report) → IsReplayed bytes report
  by_inference p spells valid (Diverging divergence) inferred is = absurd (not_done (Diverges divergence.thread divergence.place) report (λ e. cc) is)
  by_inference p spells valid (Unlinked refusal) inferred is = absurd (not_done (unlinked refusal) report (unlinked_not_done refusal) is)
  by_inference p spells valid (Circular cycle) inferred is = absurd (not_done (circular cycle) report (λ e. cc) is)
  by_inference p spells valid (Ordered order) inferred is = by_followed p spells valid (follow_all p bundle.fuel bundle.logs) refl order inferred is

  by_verdict : (p : Listing) → spelled bundle.text ≡ Ok p → (verdict : Option Fault) → IsVerdict p verdict → AnswersVerdict bundle.text verdict (AnswersLogs AnswersRun bundle p) (done report) → IsReplayed bytes report
  by_verdict p spells (Some fault) judged is = absurd (not_done _ report (λ e. cc) is)
  by_verdict p spells None judged is = by_inference p spells judged is.0 is.1.0 is.1.1

  by_program : (s : Result Listing LineFault) → spelled bundle.text ≡ s → AnswersProgram bundle.text s (AnswersLogs AnswersRun bundle) (done report) → IsReplayed bytes report
  by_program (Err fault) spells is = absurd (not_done _ report (λ e. cc) is)
  by_program (Ok p) spells is = by_verdict p spells is.0 is.1.0 is.1.1

by_reading : Laws → (bytes report : List ℕ) (r : Result Bundled FormatRefusal) → reading bytes ≡ r → AnswersBundle AnswersRun r (done report) → IsReplayed bytes report
by_reading laws bytes report (Err refusal) reads is = absurd (not_done (Bundle refusal.kind refusal.offset) report (λ e. cc) is)
by_reading laws bytes report (Ok bundle) reads is = by_program laws bytes report bundle reads (spelled bundle.text) refl is

by_length : Laws → (too_long : Bool) (limits : Limits) (bytes report : List ℕ) → MatchBool too_long (done report ≡ refused TooLong) (AnswersInput limits Replay bytes (done report)) → IsReplayed bytes report
by_length laws true limits bytes report is = absurd (not_done TooLong report (λ e. cc) is)
by_length laws false limits bytes report is = by_reading laws bytes report (reading bytes) refl is

by_command : Laws → (limits : Limits) (command : Option Command) (bytes report : List ℕ) → command ≡ Some Replay → AnswersBy limits command bytes (done report) → IsReplayed bytes report
by_command laws limits command bytes report named is =
    let P : Option Command → Type 0 = λ c. AnswersBy limits c bytes (done report) in
    by_length laws (nat_lt INPUT_LIMIT (length bytes)) limits bytes report (subst P named is)

pub replays_are_runs : OneReading → Laws → ReplaysAreRuns
replays_are_runs read laws = λ words bytes report is settings line named.
    by_command laws (limits_of settings) (offline_named settings.command) bytes report (ap offline_named named) (of_line read (AnswersSettings bytes) words (done report) is settings line)

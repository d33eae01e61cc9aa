-- What `sim` is done with is the run of a recording.
use Rattle.std.proofs.Common.{◌≡◌, ◌∙◌, ℕ, ◌≤◌, Bool, true, false, List, Option, Some, None, Result, Ok, Err, refl, sym, ap, subst, length, nat_lt}
use Rattle.std.specs.Bool.{MatchBool}
use Rattle.stride_base.specs.declared.limits.TheConstants.{INPUT_LIMIT}
use Rattle.stride_isa.specs.Faults.{Fault, IsVerdict}
use Rattle.stride_isa.specs.Listing.{Listing}
use Rattle.stride_isa.specs.Validity.{IsValid}
use Rattle.assembler.specs.Programs.{LineFault, spelled}
use Rattle.interleavings.specs.Driving.{driven, stranger}
use Rattle.interleavings.specs.Following.{Divergence, Followed}
use Rattle.interleavings.specs.Laws.{DrivenIsFollowed}
use Rattle.command_words.specs.Laws.{OneReading}
use Rattle.event_order.specs.Laws.{ExtensionsAreRuns}
use Rattle.stride_cli.specs.declared.status.MemberFault.TheVariants.{NoThread}
use Rattle.stride_cli.specs.declared.status.Status.{Status}
use Rattle.stride_cli.specs.declared.status.Status.TheVariants.{Done, NotEnabled, TooLong}
use Rattle.stride_cli.specs.declared.words.Command.{Command}
use Rattle.stride_cli.specs.declared.words.Command.TheVariants.{Sim}
use Rattle.stride_cli.specs.Answers.{Answer, AnswersBy, AnswersSettings, AnswersInput, AnswersOrder, AnswersProgram, AnswersRecorded, AnswersRecording, AnswersSimulated, AnswersVerdict, done, order_of, program_part, refused, setting_of}
use Rattle.stride_cli.specs.Inferring.{IsInferredBy, Ordered}
use Rattle.stride_cli.specs.Laws.{IsSimulated, SimulationsAreRuns}
use Rattle.stride_cli.specs.Reports.{sim_report}
use Rattle.stride_cli.specs.Settings.{Limits, limits_of}
use Rattle.stride_cli.specs.Words.{offline_named}
use Rattle.stride_cli.proofs.LeastRuns.{least_runs}
use Rattle.stride_cli.proofs.Readings.{in_range, of_line}

-- what the laws say of recordings and of the direct order
pub record Laws : Type 0 where
  pub followed : DrivenIsFollowed
  pub runs : ExtensionsAreRuns

-- a refusal is not done
not_done : (status : Status) (report : List ℕ) → (status ≡ Done → ⊥) → done report ≡ refused status → ⊥
not_done status report other is = other (let e = ap (λ (answer : Answer). answer.status) is in cc)

same_report : (report other : List ℕ) → done report ≡ done other → report ≡ other
same_report report other is = ap (λ (answer : Answer). answer.report) is

some_same : {X : Type 0} {x y : X} → Some x ≡ Some y → x ≡ y
some_same e = cc

module _ (laws : Laws) (limits : Limits) (some : 1 ≤ limits.fuel) (bytes report : List ℕ) (p : Listing) (spells : spelled (program_part bytes) ≡ Ok p) (valid : IsValid p) where
  by_recording : (order : List ℕ) → order_of bytes ≡ Ok order → stranger (length p.threads) order ≡ None → AnswersRecording limits p (driven (setting_of limits p) order) (done report) → IsSimulated limits bytes report
  by_recording order ordered known is =
      let recording = driven (setting_of limits p) order in
      let again = laws.followed (setting_of limits p) order known in
      let Q : Result (List Followed) Divergence → Type 0 = λ r. IsInferredBy p r (Ordered is.inferred) in
      let run = least_runs laws.runs p valid limits.fuel some recording.logs again.followed again.follows is.inferred (subst Q again.follows is.ordered) in
      let same : is.machine ≡ run.machine = some_same (sym is.runs ∙ run.runs) in
      record {
        program = p;
        spells = spells;
        valid = valid;
        order = order;
        ordered = ordered;
        known = known;
        followed = again;
        links = is.inferred.links;
        schedule = is.inferred.schedule;
        run = run;
        shows = same_report report (sim_report recording.logs is.inferred.links is.inferred.schedule is.machine) is.shows ∙ ap (sim_report recording.logs is.inferred.links is.inferred.schedule) same;
      }

  by_stranger : (order : List ℕ) → order_of bytes ≡ Ok order → (found : Option ℕ) → stranger (length p.threads) order ≡ found → AnswersRecorded limits p found (driven (setting_of limits p) order) (done report) → IsSimulated limits bytes report
  by_stranger order ordered None known is = by_recording order ordered known is
  by_stranger order ordered (Some place) known is = absurd (not_done (NotEnabled place NoThread) report (λ e. cc) is)

  by_order : (r : Result (List ℕ) LineFault) → order_of bytes ≡ r → AnswersOrder r (AnswersSimulated limits p) (done report) → IsSimulated limits bytes report
  by_order (Err fault) ordered is = absurd (not_done _ report (λ e. cc) is)
  by_order (Ok order) ordered is = by_stranger order ordered (stranger (length p.threads) order) refl is

module _ (laws : Laws) (limits : Limits) (some : 1 ≤ limits.fuel) (bytes report : List ℕ) where
  -- what is answered to an accepted program of the input
  abbrev Accepted : Listing → Answer → Type 0
  Accepted p = AnswersOrder (order_of bytes) (AnswersSimulated limits p)

  by_verdict : (p : Listing) → spelled (program_part bytes) ≡ Ok p → (verdict : Option Fault) → IsVerdict p verdict → AnswersVerdict (program_part bytes) verdict (Accepted p) (done report) → IsSimulated limits bytes report
  by_verdict p spells (Some fault) judged is = absurd (not_done _ report (λ e. cc) is)
  by_verdict p spells None judged is = by_order laws limits some bytes report p spells judged (order_of bytes) refl is

  by_program : (s : Result Listing LineFault) → spelled (program_part bytes) ≡ s → AnswersProgram (program_part bytes) s Accepted (done report) → IsSimulated limits bytes report
  by_program (Err fault) spells is = absurd (not_done _ report (λ e. cc) is)
  by_program (Ok p) spells is = by_verdict p spells is.0 is.1.0 is.1.1

  by_length : (too_long : Bool) → MatchBool too_long (done report ≡ refused TooLong) (AnswersInput limits Sim bytes (done report)) → IsSimulated limits bytes report
  by_length true is = absurd (not_done TooLong report (λ e. cc) is)
  by_length false is = by_program (spelled (program_part bytes)) refl is

  by_command : (command : Option Command) → command ≡ Some Sim → AnswersBy limits command bytes (done report) → IsSimulated limits bytes report
  by_command command named is =
      let P : Option Command → Type 0 = λ c. AnswersBy limits c bytes (done report) in
      by_length (nat_lt INPUT_LIMIT (length bytes)) (subst P named is)

pub simulations_are_runs : OneReading → Laws → SimulationsAreRuns
simulations_are_runs reading laws = λ words bytes report is settings line named.
    by_command laws (limits_of settings) (in_range words settings line).some_fuel bytes report (offline_named settings.command) (ap offline_named named) (of_line reading (AnswersSettings bytes) words (done report) is settings line)

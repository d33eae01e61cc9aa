-- The answer of `sim` to an input, by what became of its program, its order and its recording.
use Rattle.std.proofs.Common.{◌≡◌, ◌∙◌, ◌++◌, ℕ, ◌+◌, ◌≤◌, List, Option, None, Result, Ok, Err, refl, sym, ap, subst, length, slice_get, unwrap_or, append_assoc}
use Rattle.stride_isa.specs.Listing.{Listing}
use Rattle.stride_isa.specs.Validity.{IsValid}
use Rattle.interleavings.specs.declared.driven.DriveError.{DriveError}
use Rattle.interleavings.specs.declared.driven.DriveError.TheVariants as drives
use Rattle.interleavings.specs.declared.event.LogEntry.{LogEntry}
use Rattle.interleavings.specs.DrivenSeen.{IsStranger}
use Rattle.interleavings.specs.Driving.{driven, stranger}
use Rattle.interleavings.specs.Following.{Divergence, Followed, follow_all}
use Rattle.interleavings.specs.TraceLists.{TraceLists}
use Rattle.assembler.specs.Programs.{LineFault, spelled}
use Rattle.replayer.specs.Replays.{Results, results_of}
use Rattle.stride_cli.specs.declared.status.MemberFault.TheVariants.{NoThread}
use Rattle.stride_cli.specs.declared.status.Status.TheVariants as statuses
use Rattle.stride_cli.specs.declared.words.Command.TheVariants.{Sim}
use Rattle.stride_cli.specs.Again.{IsRunAgain}
use Rattle.stride_cli.specs.Answers.{Answer, AnswersInput, AnswersOrder, AnswersProgram, AnswersRecorded, AnswersSimulated, done, order_of, program_part, refused, refused_text, setting_of}
use Rattle.stride_cli.specs.Gives.{Refuses}
use Rattle.stride_cli.specs.Headline.{look_limit}
use Rattle.stride_cli.specs.Inferring.{Inferred, IsInferredBy, IsInferredOf, Ordered}
use Rattle.stride_cli.specs.Inputs.{IsInput}
use Rattle.stride_cli.specs.Looks.{followed_looks, printing_looks, simulated_looks}
use Rattle.linkage.specs.Sources.{event_count}
use Rattle.event_order.specs.Laws.{ExtensionsAreWhole}
use Rattle.stride_cli.proofs.RecordedRuns.{found_within}
use Rattle.stride_cli.specs.Playing.{IsPlayed, TellsLogs, TellsSummary}
use Rattle.stride_cli.specs.Refusals.{of_drive}
use Rattle.stride_cli.specs.Reports.{halted_count, links_section, logs_section, schedule_section, summary_lines}
use Rattle.stride_cli.specs.Runs.{run_section}
use Rattle.stride_cli.specs.Settings.{Limits}

module _ (limits : Limits) (bytes : List ℕ) where
  -- what is answered to an accepted program of an input
  abbrev Accepted : Listing → Answer → Type 0
  Accepted p = AnswersOrder (order_of bytes) (AnswersSimulated limits p)

  -- what is answered to the order of an accepted program
  to_order : (p : Listing) (answer : Answer) → spelled (program_part bytes) ≡ Ok p → IsValid p → Accepted p answer → AnswersInput limits Sim bytes answer
  to_order p answer spells valid is =
      let Q : Result Listing LineFault → Type 0 = λ s. AnswersProgram (program_part bytes) s Accepted answer in
      subst Q (sym spells) (None, (valid, is))

  -- the refusal of the order
  pub order_refused : (p : Listing) (fault : LineFault) → spelled (program_part bytes) ≡ Ok p → IsValid p → order_of bytes ≡ Err fault → AnswersInput limits Sim bytes (refused_text fault)
  order_refused p fault spells valid is =
      let Q : Result (List ℕ) LineFault → Type 0 = λ r. AnswersOrder r (AnswersSimulated limits p) (refused_text fault) in
      to_order p (refused_text fault) spells valid (subst Q (sym is) refl)

  -- what is answered to an order that is spelled
  to_simulated : (p : Listing) (order : List ℕ) (answer : Answer) → IsInput bytes p order → AnswersSimulated limits p order answer → AnswersInput limits Sim bytes answer
  to_simulated p order answer input is =
      let Q : Result (List ℕ) LineFault → Type 0 = λ r. AnswersOrder r (AnswersSimulated limits p) answer in
      to_order p answer input.program input.valid (subst Q (sym input.ordered) is)

  drive_refused_by : (p : Listing) (order : List ℕ) (error : DriveError) → IsInput bytes p order → IsStranger (length p.threads) order error → Refuses limits Sim bytes (of_drive error)
  drive_refused_by p order (drives.NoSuchThread place) input is =
      let answer : Answer = refused (statuses.NotEnabled place NoThread) in
      let Q : Option ℕ → Type 0 = λ found. AnswersRecorded limits p found (driven (setting_of limits p) order) answer in
      to_simulated p order answer input (subst Q (sym is) refl)
  drive_refused_by p order drives.NoMemory input is = tt

  -- the refusal of a member that names no thread, of an order that is lent
  pub drive_refused : (p : Listing) (order lent : List ℕ) (error : DriveError) → lent ≡ order → IsInput bytes p order → IsStranger (length p.threads) lent error → Refuses limits Sim bytes (of_drive error)
  drive_refused p order lent error same input is = drive_refused_by p lent error (subst (IsInput bytes p) (sym same) input) is

  -- the report of a recording is the answer
  pub sim_done : (p : Listing) (order lent : List ℕ) (logs : List (List LogEntry)) (report : List ℕ) → lent ≡ order → IsInput bytes p order → stranger (length p.threads) lent ≡ None → logs ≡ (driven (setting_of limits p) lent).logs → TellsLogs p limits.fuel logs report → AnswersInput limits Sim bytes (done report)
  sim_done p order lent logs report same input known logged told =
      let recording = driven (setting_of limits p) lent in
      let P : List (List LogEntry) → Type 0 = λ logs. TellsLogs p limits.fuel logs report in
      let R : Option ℕ → Type 0 = λ found. AnswersRecorded limits p found recording (done report) in
      let tells = subst P logged told in
      to_simulated p lent (done report) (subst (IsInput bytes p) (sym same) input)
      (subst R (sym known) (record { inferred = tells.inferred; ordered = tells.ordered; machine = tells.machine; runs = tells.runs; shows = ap done tells.shows }))

  -- the share of a recording
  pub sim_looks : (p : Listing) (order lent : List ℕ) (logs : List (List LogEntry)) → lent ≡ order → IsInput bytes p order → logs ≡ (driven (setting_of limits p) lent).logs → simulated_looks limits (order_of bytes) (spelled (program_part bytes)) ≡ followed_looks printing_looks p (follow_all p limits.fuel logs)
  sim_looks p order lent logs same input logged =
      ap (λ (r : Result (List ℕ) LineFault). simulated_looks limits r (spelled (program_part bytes))) (input.ordered ∙ ap Ok (sym same))
      ∙ (ap (simulated_looks limits (Ok lent)) input.program ∙ ap (λ (all : List (List LogEntry)). followed_looks printing_looks p (follow_all p limits.fuel all)) (sym logged))

-- the report tells of logs that were followed, linked, ordered and run
pub tells_logs : (p : Listing) (fuel : ℕ) (logs : List (List LogEntry)) (traces : TraceLists) (inferred : Inferred) (results : Results) (report : List ℕ) → IsRunAgain p fuel logs traces → IsPlayed p fuel traces inferred results
    → report ≡ (logs_section logs ++ links_section inferred.links) ++ (schedule_section inferred.schedule ++ run_section results) → TellsLogs p fuel logs report
tells_logs p fuel logs traces inferred results report again played put =
    let P : TraceLists → Type 0 = λ traces. IsInferredOf traces (Ordered inferred) in
    let Q : Result (List Followed) Divergence → Type 0 = λ r. IsInferredBy p r (Ordered inferred) in
    let plays = played.run in
    let shown = put ∙ ap (λ (r : Results). (logs_section logs ++ links_section inferred.links) ++ (schedule_section inferred.schedule ++ run_section r)) plays.shows in
    record {
      inferred = inferred;
      ordered = subst Q (sym again.follows) (subst P again.traces_are played.ordered);
      machine = plays.machine;
      runs = plays.runs;
      shows = shown ∙ append_assoc (logs_section logs) (links_section inferred.links) (schedule_section inferred.schedule ++ run_section (results_of p plays.machine));
    }

-- the report tells the summary of logs that were followed, linked, ordered and run
pub tells_summary : ExtensionsAreWhole → (p : Listing) (fuel : ℕ) (logs : List (List LogEntry)) (traces : TraceLists) (inferred : Inferred) (results : Results) (report : List ℕ) (before after : ℕ) → IsRunAgain p fuel logs traces → IsPlayed p fuel traces inferred results
    → report ≡ summary_lines (length p.threads) (length inferred.schedule) (halted_count results.ends) (unwrap_or (slice_get results.last_values 0) 0) → after ≤ before + look_limit (event_count traces) → TellsSummary p fuel logs report before after
tells_summary whole p fuel logs traces inferred results report before after again played put looks =
    let P : TraceLists → Type 0 = λ traces. IsInferredOf traces (Ordered inferred) in
    let Q : Result (List Followed) Divergence → Type 0 = λ r. IsInferredBy p r (Ordered inferred) in
    let plays = played.run in
    let shown = put ∙ ap (λ (r : Results). summary_lines (length p.threads) (length inferred.schedule) (halted_count r.ends) (unwrap_or (slice_get r.last_values 0) 0)) plays.shows in
    record {
      inferred = inferred;
      ordered = subst Q (sym again.follows) (subst P again.traces_are played.ordered);
      machine = plays.machine;
      runs = plays.runs;
      shows = shown;
      found = found_within whole traces inferred before after played.ordered looks;
    }

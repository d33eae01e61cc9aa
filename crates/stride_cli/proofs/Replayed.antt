-- The answer of `replay` to a bundle whose events have an order, and that each turn of this order can be taken.
use Rattle.std.proofs.Common.{◌≡◌, ◌∙◌, ◌++◌, ℕ, List, sym, ap, subst}
use Rattle.stride_isa.specs.Listing.{Listing}
use Rattle.sc_machine.specs.Schedule.{replayed}
use Rattle.interleavings.specs.declared.event.LogEntry.{LogEntry}
use Rattle.interleavings.specs.Following.{follow_all}
use Rattle.interleavings.specs.TraceLists.{TraceLists}
use Rattle.event_order.specs.Laws.{ExtensionsAreRuns, RunsAsFollowed}
use Rattle.log_format.specs.Reading.{reading}
use Rattle.replayer.specs.Replays.{IsRefusedAt, IsRunOf as Plays, Results}
use Rattle.stride_cli.specs.Again.{IsRunAgain}
use Rattle.stride_cli.specs.Answers.{AnswersBundle, AnswersRun, done}
use Rattle.stride_cli.specs.Bundles.{IsRerun}
use Rattle.stride_cli.specs.Inferring.{Inferred, IsInferredOf, Ordered}
use Rattle.stride_cli.specs.Reports.{schedule_section}
use Rattle.stride_cli.specs.Runs.{run_section}
use Rattle.stride_cli.proofs.Bundles.{to_events}
use Rattle.stride_cli.proofs.LeastRuns.{least_runs}

-- the threads of a bundle were run again by its logs
pub rerun_again : (bytes : List ℕ) (p : Listing) (fuel : ℕ) (traces : TraceLists) (rerun : IsRerun bytes p fuel traces) → IsRunAgain p fuel rerun.bundle.logs traces
rerun_again bytes p fuel traces rerun = record {
  valid = rerun.valid;
  some = rerun.some;
  most = rerun.most;
  all = rerun.all;
  follows = ap (λ (n : ℕ). follow_all p n rerun.bundle.logs) rerun.fuel_is ∙ rerun.follows;
  traces_are = rerun.traces_are;
  kept = rerun.kept;
}

-- the least schedule of the events is a run of the threads
is_run : ExtensionsAreRuns → (p : Listing) (fuel : ℕ) (logs : List (List LogEntry)) (traces : TraceLists) (inferred : Inferred) (again : IsRunAgain p fuel logs traces) → IsInferredOf traces (Ordered inferred) → RunsAsFollowed p fuel again.all inferred.schedule
is_run law p fuel logs traces inferred again is =
    let P : TraceLists → Type 0 = λ traces. IsInferredOf traces (Ordered inferred) in
    least_runs law p again.valid fuel again.some logs again.all again.follows inferred (subst P again.traces_are is)

-- each of its turns can be taken
pub never_refused : ExtensionsAreRuns → (p : Listing) (fuel : ℕ) (logs : List (List LogEntry)) (traces : TraceLists) (inferred : Inferred) (lent : List ℕ) (place : ℕ) → IsRunAgain p fuel logs traces → IsInferredOf traces (Ordered inferred) → lent ≡ inferred.schedule → IsRefusedAt p fuel lent place → ⊥
never_refused law p fuel logs traces inferred lent place again is same at =
    let run = is_run law p fuel logs traces inferred again is in
    let none = sym at.no_run ∙ (ap (replayed p fuel) same ∙ run.runs) in
    absurd (cc)

-- its report is the answer
pub replay_done : (bytes : List ℕ) (p : Listing) (fuel : ℕ) (traces : TraceLists) (inferred : Inferred) (results : Results) (report : List ℕ) → IsRerun bytes p fuel traces → IsInferredOf traces (Ordered inferred) → Plays p fuel inferred.schedule results → report ≡ schedule_section inferred.schedule ++ run_section results → AnswersBundle AnswersRun (reading bytes) (done report)
replay_done bytes p fuel traces inferred results report rerun is plays put =
    let runs = ap (λ (n : ℕ). replayed p n inferred.schedule) (sym rerun.fuel_is) ∙ plays.runs in
    let shown = put ∙ ap (λ (r : Results). schedule_section inferred.schedule ++ run_section r) plays.shows in
    to_events AnswersRun bytes p fuel traces (Ordered inferred) (done report) rerun is (record { machine = plays.machine; runs = runs; shows = ap done shown })

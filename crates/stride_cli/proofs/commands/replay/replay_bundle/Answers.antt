use Rattle.std.proofs.Common.{◌≡◌, ◌++◌, ℕ, List, refl, sym, subst}
use Rattle.replayer.specs.Replays.{IsRunOf, seen}
use Rattle.stride_cli.specs.Inferring.{Inferred, SchedulesEvents}
use Rattle.stride_cli.specs.Reports.{schedule_section}
use Rattle.stride_cli.specs.Runs.{run_section}
use Rattle.stride_cli.proofs.Replayed.{replay_done, rerun_again}
use Rattle.stride_cli.proofs.commands.replay.replay_bundle.Goals as goal

pub replay_events-requires : goal.replay_events-requires
replay_events-requires g c =
    let rerun = c.in_ok-rerun.rerun in
    let P : List ℕ → Type 0 = λ schedule. SchedulesEvents rerun.traces schedule in
    record {
      traces = rerun.traces;
      again = (c.in_ok-rerun.ensures.rerun.bundle.logs, rerun_again c.args.bytes.items rerun.program rerun.fuel rerun.traces c.in_ok-rerun.ensures.rerun);
      scheduled = subst P (sym c.as_slice-schedule.ensures) c.in_ok-order.ensures.scheduled;
    }

pub returns-clause-answer : goal.returns-clause-answer
returns-clause-answer g c =
    let rerun = c.in_ok-rerun.rerun in
    let inferred : Inferred = record { links = c.in_ok-order.ensures.scheduled.0; schedule = c.in_ok-order.order.items } in
    let report : c.put_replay.new.report.items ≡ schedule_section inferred.schedule ++ run_section (seen c.in_ok-played.played) =
    rw (c.in_ok-put_replay.ensures, c.new-report.ensures.items, c.as_slice-schedule.ensures) refl in
    let P : List ℕ → Type 0 = λ schedule. IsRunOf rerun.program rerun.fuel schedule (seen c.in_ok-played.played) in
    replay_done c.args.bytes.items rerun.program rerun.fuel rerun.traces inferred (seen c.in_ok-played.played) c.put_replay.new.report.items c.in_ok-rerun.ensures.rerun c.in_ok-order.ensures.scheduled.1 (subst P c.as_slice-schedule.ensures c.in_ok-played.ensures.run) report

use Rattle.std.proofs.Common.{◌≡◌, ◌++◌, refl}
use Rattle.log_format.specs.Bundles.{lists_of}
use Rattle.replayer.specs.Replays.{seen}
use Rattle.stride_cli.specs.Inferring.{Inferred}
use Rattle.stride_cli.specs.LimitsSeen.{limits_seen}
use Rattle.stride_cli.specs.Reports.{schedule_section}
use Rattle.stride_cli.specs.Runs.{run_section}
use Rattle.stride_cli.proofs.RecordedRuns.{logged_steps, run_found, run_looks}
use Rattle.stride_cli.proofs.commands.run.report_recording.Goals as goal

pub rerun_recorded-requires : goal.rerun_recorded-requires
rerun_recorded-requires g c = logged_steps (limits_seen c.args.limits) c.args.program.now (lists_of c.args.logs.items) c.requires

pub returns-clause-run : goal.returns-clause-run
returns-clause-run g c =
    let order = c.in_ok-replayed.replayed.order in
    let inferred : Inferred = record { links = order.links; schedule = order.schedule.items } in
    let report : c.put_replay.new.report.items ≡ schedule_section inferred.schedule ++ run_section (seen c.in_ok-replayed.replayed.played) =
    rw (c.in_ok-put_replay.ensures, c.new-report.ensures.items, c.as_slice.ensures) refl in
    run_found (limits_seen c.args.limits) c.args.program.now (lists_of c.args.logs.items) c.in_ok-traces.traces c.requires c.in_ok-traces.ensures.recorded.again
    c.extensions_are_whole.ensures c.recordings_are_runs.ensures.replay inferred (seen c.in_ok-replayed.replayed.played) c.put_replay.new.report.items c.args.steps.now c.play_recorded.new.steps c.in_ok-replayed.ensures.played report c.play_recorded.ensures.looks

pub returns-clause-looks : goal.returns-clause-looks
returns-clause-looks g c =
    run_looks (limits_seen c.args.limits) c.args.program.now (lists_of c.args.logs.items) c.in_ok-traces.traces c.requires c.in_ok-traces.ensures.recorded.again c.args.steps.now c.play_recorded.new.steps c.play_recorded.ensures.looks

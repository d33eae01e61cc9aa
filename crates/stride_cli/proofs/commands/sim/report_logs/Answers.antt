use Rattle.std.proofs.Common.{◌≡◌, ◌++◌, refl}
use Rattle.log_format.specs.Bundles.{lists_of}
use Rattle.replayer.specs.Replays.{seen}
use Rattle.stride_cli.specs.Inferring.{Inferred}
use Rattle.stride_cli.specs.Reports.{links_section, logs_section, schedule_section}
use Rattle.stride_cli.specs.Runs.{run_section}
use Rattle.stride_cli.proofs.Simulated.{tells_logs}
use Rattle.stride_cli.proofs.commands.sim.report_logs.Goals as goal

pub returns-clause-told : goal.returns-clause-told
returns-clause-told g c =
    let logs = lists_of c.args.logs.now.items in
    let order = c.in_ok-replayed.replayed.order in
    let inferred : Inferred = record { links = order.links; schedule = order.schedule.items } in
    let report : c.put_replay.new.report.items ≡ (logs_section logs ++ links_section inferred.links) ++ (schedule_section inferred.schedule ++ run_section (seen c.in_ok-replayed.replayed.played)) =
    rw (c.in_ok-put_replay.ensures, c.in_ok-put_links.ensures.section, c.in_ok-put_logs.ensures, c.new-report.ensures.items, c.as_slice.ensures, c.as_slice-2.ensures) refl in
    tells_logs c.args.program.now c.args.limits.fuel logs c.in_ok-traces.traces inferred (seen c.in_ok-replayed.replayed.played) c.put_replay.new.report.items c.in_ok-traces.ensures.recorded.again c.in_ok-replayed.ensures.played report

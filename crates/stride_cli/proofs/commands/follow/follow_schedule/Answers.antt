use Rattle.std.proofs.Common.{◌≡◌, refl}
use Rattle.std.proofs.lemmas.Result.{err_from_is_err_and}
use Rattle.replayer.specs.Replays.{seen}
use Rattle.stride_cli.specs.LimitsSeen.{limits_seen}
use Rattle.stride_cli.specs.Runs.{run_section}
use Rattle.stride_cli.proofs.Followed.{followed_done, replay_refused}
use Rattle.stride_cli.proofs.commands.follow.follow_schedule.Goals as goal

pub returns-in_err-input : goal.returns-in_err-input
returns-in_err-input c =
    let p = err_from_is_err_and c.from_residual.result c.from_residual.ensures.1 in
    rw (p.1, p.2) (c.in_err-input.ensures.follow (limits_seen c.args.limits))

pub returns : goal.returns
returns c =
    let report : c.put_run.new.report.items ≡ run_section (seen c.in-Ok.played) = rw (c.in_ok-put_run.ensures, c.new-report.ensures.items) refl in
    followed_done (limits_seen c.args.limits) c.args.bytes.now c.in_ok-input.input.program c.in_ok-input.input.order.items (seen c.in-Ok.played) c.put_run.new.report.items
    c.in_ok-input.ensures.input (rw c.as_slice-order.ensures at c.in-Ok.ensures.run) report

pub returns-in-Err : goal.returns-in-Err
returns-in-Err c =
    rw c.refused_order.ensures
    (replay_refused (limits_seen c.args.limits) c.args.bytes.now c.in_ok-input.input.program c.in_ok-input.input.order.items c.as_slice-order.result.now c.in-Err.error c.as_slice-order.ensures c.in_ok-input.ensures.input c.in-Err.ensures.run)

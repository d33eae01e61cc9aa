use Rattle.std.proofs.Common.{ap, sym}
use Rattle.std.proofs.lemmas.Result.{err_from_is_err_and}
use Rattle.interleavings.specs.Driving.{driven, whole_run}
use Rattle.stride_cli.specs.Answers.{setting_of}
use Rattle.stride_cli.specs.LimitsSeen.{limits_seen}
use Rattle.stride_cli.proofs.commands.sim.simulate.Goals as goal

pub returns-in_err-input-clause-answer : goal.returns-in_err-input-clause-answer
returns-in_err-input-clause-answer g c =
    let p = err_from_is_err_and c.from_residual.result c.from_residual.ensures.1 in
    rw (p.1, p.2) (c.in_err-input.ensures.sim (limits_seen c.args.limits))

pub report_logs-requires-clause-recorded : goal.report_logs-requires-clause-recorded
report_logs-requires-clause-recorded g c =
    let setting = setting_of (limits_seen c.args.limits) c.in_ok-input.input.program in
    let order = c.as_slice-order.result.now in
    record {
      recording = driven setting order;
      steps = (whole_run setting order).steps;
      logs_are = sym (ap (λ r. r.logs) c.in_ok-driven.ensures.recording);
      history = c.driven_is_a_history.ensures setting order c.in_ok-driven.ensures.known;
      followed = c.driven_is_followed.ensures setting order c.in_ok-driven.ensures.known;
    }

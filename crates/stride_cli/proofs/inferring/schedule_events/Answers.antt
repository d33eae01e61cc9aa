use Rattle.std.proofs.lemmas.Result.{err_from_is_err_and}
use Rattle.stride_cli.proofs.Events.{link_refused, order_refused}
use Rattle.stride_cli.proofs.inferring.schedule_events.Goals as goal

pub returns-in_err-links-clause-refused : goal.returns-in_err-links-clause-refused
returns-in_err-links-clause-refused g c =
    let p = err_from_is_err_and c.from_residual.result c.from_residual.ensures.1 in
    rw (p.1, p.2) (link_refused c.args.traces c.in_err-links.field-0.0 c.in_err-links.ensures.answer)

pub returns-in_err-schedule-clause-refused : goal.returns-in_err-schedule-clause-refused
returns-in_err-schedule-clause-refused g c =
    let p = err_from_is_err_and c.from_residual-in_err-schedule.result c.from_residual-in_err-schedule.ensures.1 in
    rw (p.1, p.2) (order_refused c.args.traces c.in_ok-links.links c.in_err-schedule.field-0.0 c.in_ok-links.ensures.answer c.in_err-schedule.ensures.answer)

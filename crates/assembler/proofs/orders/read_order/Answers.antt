use Rattle.std.proofs.lemmas.Result.{err_from_is_err_and}
use Rattle.stride_base.specs.Listed.{Listed}
use Rattle.assembler.proofs.OrderLemmas.{line_refused}
use Rattle.assembler.proofs.orders.read_order.Goals as goal

pub returns-in_err-push_line-clause-spelled : goal.returns-in_err-push_line-clause-spelled
returns-in_err-push_line-clause-spelled c =
    let error = err_from_is_err_and c.from_residual.result c.from_residual.ensures.1 in
    rw (error.1, error.2) (line_refused (λ (u : Unit {0}). c.push_line.new.order.items) (λ (order : Listed _). order.items) c.in_err-push_line.field-0.0 c.loop-line.order.items c.loop-line.number c.in-Some.line.now c.loop-line.rest.now c.in-Some.after.now _ c.in-Some.ensures.split c.loop-line.invariant.reading c.in_err-push_line.ensures.added)

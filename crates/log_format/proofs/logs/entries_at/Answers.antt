use Rattle.std.proofs.lemmas.Result.{err_from_is_err_and}
use Rattle.log_format.specs.Reading.{entries_at}
use Rattle.log_format.proofs.Loops.{entries-go_on, entries-end, entries-done}
use Rattle.log_format.proofs.logs.entries_at.Goals as goal

pub returns-in_err-entry : goal.returns-in_err-entry
returns-in_err-entry c =
    let p = err_from_is_err_and c.from_residual-in_err-entry.result c.from_residual-in_err-entry.ensures.1 in
    rw (p.1, p.2) (entries-end c.args.version c.loop.before c.loop.entries.items c.args.count c.loop.counter c.loop.rest.now (entries_at c.args.version 0 c.args.count c.args.bytes.now) c.in_err-entry.field-0.0 c.loop-test.true c.in_err-entry.ensures c.loop.invariant)

pub loop-preserved : goal.loop-preserved
loop-preserved c =
    rw (c.in_ok-push.ensures.items, c.bound_after-before.ensures) (entries-go_on c.args.version c.loop.before c.loop.entries.items c.args.count c.loop.counter c.loop.rest.now (entries_at c.args.version 0 c.args.count c.args.bytes.now) c.in_ok-entry.entry c.in_ok-entry.after.now c.loop-test.true c.in_ok-entry.ensures c.loop.invariant)

pub returns : goal.returns
returns c = entries-done c.args.version c.loop.before c.loop.entries.items c.args.count c.loop.counter c.loop.rest.now (entries_at c.args.version 0 c.args.count c.args.bytes.now) c.loop-test.false c.loop.invariant

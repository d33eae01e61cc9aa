use Rattle.std.proofs.Common.{arith}
use Rattle.linkage.proofs.Topping.{topped_all}
use Rattle.linkage.proofs.tops.tops_of.Goals as goal

pub returns-clause-tops : goal.returns-clause-tops
returns-clause-tops g c =
    let kept = c.threads-thread-end.ensures.kept in
    topped_all c.args.traces.now c.loop-thread.thread c.loop-thread.tops (omega (arith, c.loop-thread-test.false, c.threads-thread-end.ensures.count)) kept.cells kept.monitors c.loop-thread.invariant.tops

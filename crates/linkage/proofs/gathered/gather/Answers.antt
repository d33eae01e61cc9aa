use Rattle.std.proofs.Common.{[], length, arith}
use Rattle.std.proofs.lemmas.List.Sums.{sum_by_more_le}
use Rattle.linkage.proofs.GatherSteps.{gathered_all}
use Rattle.linkage.proofs.gathered.gather.Goals as goal

pub returns-clause-gathered : goal.returns-clause-gathered
returns-clause-gathered g c =
    gathered_all c.args.traces.now c.loop-thread.thread c.loop-thread.gathered (omega (arith, c.loop-thread-test.false, c.threads-thread-end.ensures.count)) c.loop-thread.invariant.gathered

pub returns-in_err-gather_thread-clause-looks : goal.returns-in_err-gather_thread-clause-looks
returns-in_err-gather_thread-clause-looks g c =
    let sum = sum_by_more_le length c.args.traces.now.events c.loop-thread.thread [] (omega (arith, c.loop-thread-test.true, c.threads-thread-end.ensures.count)) in
    omega (arith, sum, c.gather_thread.ensures.looks, c.loop-thread.invariant.looks)

use Rattle.std.proofs.Common.{◌+◌, arith}
use Rattle.linkage.proofs.PlacedWrites.{placed_round}
use Rattle.linkage.proofs.Reaching.{gone_on, gone_by_end}
use Rattle.linkage.proofs.placing.place_round.Goals as goal

pub returns-then-not-place_part-clause-looks : goal.returns-then-not-place_part-clause-looks
returns-then-not-place_part-clause-looks g c =
    let traces = c.args.traces.now in
    let from = c.args.from in
    let to = c.args.to in
    let t = c.loop-thread.thread in
    omega (arith, c.loop-thread.invariant.looks, c.place_part.ensures.looks, gone_on traces from to t (omega arith), gone_by_end traces from to (t + 1) c.requires.order)

pub returns-clause-placing : goal.returns-clause-placing
returns-clause-placing g c = λ later.
    placed_round c.args.traces.now c.args.spans.now c.requires.spans c.args.from c.args.to c.loop-thread.placing c.loop-thread.thread later (omega arith) c.requires.order c.loop-thread.invariant.placed

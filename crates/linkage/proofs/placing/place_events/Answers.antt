use Rattle.std.proofs.Common.{◌+◌, arith}
use Rattle.linkage.proofs.PlacedWrites.{placed_all}
use Rattle.linkage.proofs.Reaching.{sum_first_most}
use Rattle.linkage.proofs.placing.place_events.Goals as goal

pub place_round-requires-clause-placing : goal.place_round-requires-clause-placing
place_round-requires-clause-placing g c = c.loop-from.invariant.placed (c.loop-from.from + 1024)

pub returns-then-not-place_round-clause-looks : goal.returns-then-not-place_round-clause-looks
returns-then-not-place_round-clause-looks g c = let most = sum_first_most (c.loop-from.from + 1024) c.args.traces.now.events in omega (arith, c.loop-from.invariant.looks, c.place_round.ensures.looks)

pub returns-clause-looks : goal.returns-clause-looks
returns-clause-looks g c = omega (arith, c.loop-from.invariant.looks, sum_first_most c.loop-from.from c.args.traces.now.events)

pub returns-clause-placing : goal.returns-clause-placing
returns-clause-placing g c =
    placed_all c.args.traces.now c.args.spans.now c.requires.spans c.loop-from.from 0 c.loop-from.placing (λ thread. let most = c.longest-longest.ensures.longest thread in omega arith) (c.loop-from.invariant.placed 0)

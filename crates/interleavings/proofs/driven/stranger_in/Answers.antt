use Rattle.std.proofs.Common.{sym, arith}
use Rattle.interleavings.proofs.Strangers.{stranger_at, no_stranger}
use Rattle.interleavings.proofs.driven.stranger_in.Goals as goal

pub returns-then-from-threads : goal.returns-then-from-threads
returns-then-from-threads c =
    sym (stranger_at c.args.threads c.args.order.now c.loop-place.place c.loop-place-test.true c.loop-place.invariant (omega (arith, c.from.ensures, c.if-from-threads.true)))

pub returns : goal.returns
returns c = sym (no_stranger c.args.threads c.args.order.now (λ k lt. c.loop-place.invariant k (omega arith)))

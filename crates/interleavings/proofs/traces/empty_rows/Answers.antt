use Rattle.std.proofs.Common.{[]}
use Rattle.interleavings.proofs.TraceLemmas.{replicate_more}
use Rattle.interleavings.proofs.traces.empty_rows.Goals as goal

pub loop-preserved : goal.loop-preserved
loop-preserved c =
    rw (c.in_ok-push.ensures.items, c.loop.invariant, c.new.ensures) (replicate_more c.loop.counter [])

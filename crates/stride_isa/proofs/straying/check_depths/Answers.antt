use Rattle.std.proofs.Common.{below_more}
use Rattle.stride_isa.proofs.straying.check_depths.Goals as goal

pub loop-thread-preserved : goal.loop-thread-preserved
loop-thread-preserved c = below_more _ _ c.loop-thread.invariant (rw c.in_default.is at c.in_ok-spot.ensures)

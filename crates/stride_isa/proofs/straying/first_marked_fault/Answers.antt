use Rattle.std.proofs.Common.{below_more}
use Rattle.stride_isa.proofs.straying.first_marked_fault.Goals as goal

pub loop-at-preserved : goal.loop-at-preserved
loop-at-preserved c = below_more _ _ c.loop-at.invariant c.in_default.ensures

use Rattle.linkage.specs.Numbers.{AreFollowedBelow}
use Rattle.linkage.proofs.gaps.first_gap.Given as goal

abbrev pub invariant-loop-i : goal.invariant-loop-i
invariant-loop-i g l = AreFollowedBelow l.items l.greatest l.i

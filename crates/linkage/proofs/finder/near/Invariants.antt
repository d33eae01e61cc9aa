use Rattle.linkage.specs.Finding.{IsNearBelow}
use Rattle.linkage.proofs.finder.near.Given as goal

abbrev pub invariant-loop-below : goal.invariant-loop-below
invariant-loop-below l = IsNearBelow l.row l.cell l.value l.bound l.below

use Rattle.stride_isa.specs.Marks.{IsMarked}
use Rattle.stride_isa.specs.Telling.{AreDepths}
use Rattle.stride_isa.proofs.depths.depths_at.Given as goal

-- what was found of the depths so far
abbrev pub invariant-loop-depth : goal.invariant-loop-depth
invariant-loop-depth l = AreDepths (IsMarked l.marks.items l.at) l.depth l.found

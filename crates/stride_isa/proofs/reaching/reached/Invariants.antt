use Rattle.std.proofs.Common.{◌+◌, ◌*◌, length}
use Rattle.stride_isa.specs.Marks.{IsGrowing, unmarked_count}
use Rattle.stride_isa.proofs.reaching.reached.Given as goal

-- what is marked is reached, and waits or has all its steps marked
abbrev pub invariant-loop-pair : goal.invariant-loop-pair
invariant-loop-pair l = IsGrowing l.program l.thread l.table.marks.items l.table.work.items

-- a pair that is marked waits once
abbrev pub decreases-loop-pair : goal.decreases-loop-pair
decreases-loop-pair l = 2 * unmarked_count l.table.marks.items + length l.table.work.items

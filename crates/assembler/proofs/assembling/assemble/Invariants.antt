use Rattle.std.proofs.Common.{◌+◌, ◌≤◌, length}
use Rattle.stride_base.specs.declared.limits.TheConstants.{INPUT_LIMIT}
use Rattle.assembler.proofs.ReadingLemmas.{IsReading}
use Rattle.assembler.proofs.assembling.assemble.Given as goal

abbrev pub invariant-loop-bytes : goal.invariant-loop-bytes
invariant-loop-bytes l =
    IsReading l.assembly l.labels l.number l.rest l.text × (l.number + length l.rest ≤ INPUT_LIMIT + 1)

abbrev pub decreases-loop-bytes : goal.decreases-loop-bytes
decreases-loop-bytes l = length l.rest

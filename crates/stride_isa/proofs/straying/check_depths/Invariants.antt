use Rattle.std.proofs.Common.{ℕ, ◌<◌}
use Rattle.stride_isa.specs.Telling.{IsFaultlessThread}
use Rattle.stride_isa.proofs.straying.check_depths.Given as goal

-- no thread so far is at fault
abbrev pub invariant-loop-thread : goal.invariant-loop-thread
invariant-loop-thread l = (t : ℕ) → t < l.thread → IsFaultlessThread l.program t

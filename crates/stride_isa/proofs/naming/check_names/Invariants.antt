use Rattle.std.proofs.Common.{ℕ, ◌<◌}
use Rattle.stride_isa.specs.Telling.{IsNamedThread}
use Rattle.stride_isa.proofs.naming.check_names.Given as goal

-- each instruction of the threads so far names what is there
abbrev pub invariant-loop-thread : goal.invariant-loop-thread
invariant-loop-thread l = (t : ℕ) → t < l.thread → IsNamedThread l.program t

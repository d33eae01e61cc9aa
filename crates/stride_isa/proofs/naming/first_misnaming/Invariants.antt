use Rattle.std.proofs.Common.{ℕ, ◌<◌}
use Rattle.stride_isa.specs.Telling.{IsNamed}
use Rattle.stride_isa.proofs.naming.first_misnaming.Given as goal

-- each instruction so far names what is there
abbrev pub invariant-loop-at : goal.invariant-loop-at
invariant-loop-at l = (a : ℕ) → a < l.at → IsNamed l.program l.thread a

use Rattle.std.proofs.Common.{ℕ, ◌<◌}
use Rattle.stride_isa.specs.Telling.{IsFaultless}
use Rattle.stride_isa.proofs.straying.first_marked_fault.Given as goal

-- no position so far is at fault
abbrev pub invariant-loop-at : goal.invariant-loop-at
invariant-loop-at l = (a : ℕ) → a < l.at → IsFaultless l.program l.thread a

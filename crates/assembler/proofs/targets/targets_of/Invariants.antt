use Rattle.std.proofs.Common.{◌≡◌, ℕ, ◌<◌, false, length, take, get_or}
use Rattle.std.specs.List.{list_any}
use Rattle.assembler.specs.Canonical.{jumps_to}
use Rattle.stride_isa.specs.Listing.{code_of}
use Rattle.assembler.proofs.targets.targets_of.Given as goal

-- at each position, whether a jump of the code so far has it as its target
abbrev pub invariant-loop-at : goal.invariant-loop-at
invariant-loop-at l = record {
  places : length l.targets.items ≡ length (code_of l.program l.thread);
  marked : (k : ℕ) → k < length l.targets.items → get_or l.targets.items k false ≡ list_any (jumps_to k) (take l.at (code_of l.program l.thread));
}

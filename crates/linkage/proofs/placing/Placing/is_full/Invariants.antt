use Rattle.std.proofs.Common.{◌≡◌, ℕ, ◌<◌, true, false}
use Rattle.std.specs.List.{slice_index_or}
use Rattle.linkage.proofs.placing.Placing.is_full.Given as goal

abbrev pub invariant-loop-filled : goal.invariant-loop-filled
invariant-loop-filled l = (i : ℕ) → i < l.filled-index → slice_index_or l.self.filled.items i false ≡ true

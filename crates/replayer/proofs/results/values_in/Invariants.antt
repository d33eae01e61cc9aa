use Rattle.std.proofs.Common.{◌≡◌, map, slice_index}
use Rattle.std.specs.List.{range_with_len}
use Rattle.replayer.proofs.results.values_in.Given as goal

-- the values so far
abbrev pub invariant-loop-cell : goal.invariant-loop-cell
invariant-loop-cell l = l.values.items ≡ map (λ cell. slice_index l.row cell) (range_with_len 0 l.cell)

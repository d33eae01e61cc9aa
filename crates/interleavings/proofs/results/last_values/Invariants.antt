use Rattle.std.proofs.Common.{◌≡◌, map, slice_index}
use Rattle.std.specs.List.{range_with_len}
use Rattle.interleavings.specs.AtomicStep.{Value}
use Rattle.interleavings.specs.Layout.{index_of}
use Rattle.interleavings.proofs.results.last_values.Given as goal

-- the values so far
abbrev pub invariant-loop-cell : goal.invariant-loop-cell
invariant-loop-cell l = l.values.items ≡ map (λ cell. slice_index l.core.words.items (index_of l.core.layout.cells (Value cell))) (range_with_len 0 l.cell)

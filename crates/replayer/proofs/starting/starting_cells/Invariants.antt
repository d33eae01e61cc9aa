use Rattle.std.proofs.Common.{◌≡◌, ℕ, ◌<◌, length, slice_index}
use Rattle.stride_isa.specs.Limits.{cell_limit}
use Rattle.stride_isa.specs.Listing.{start_of}
use Rattle.replayer.proofs.starting.starting_cells.Given as goal

-- the cells so far have their starting values
abbrev pub invariant-loop-cell : goal.invariant-loop-cell
invariant-loop-cell l = (length l.cells ≡ cell_limit) × ((k : ℕ) → k < l.cell → slice_index l.cells k ≡ start_of l.program k)

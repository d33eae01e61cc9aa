use Rattle.std.proofs.Common.{◌≡◌, take}
use Rattle.stride_isa.specs.Listing.{starts_of}
use Rattle.recorder.proofs.session.starting_values.Given as goal

-- the starting values so far
abbrev pub invariant-loop-cell : goal.invariant-loop-cell
invariant-loop-cell l = l.starts.items ≡ take l.cell (starts_of l.program.decls)

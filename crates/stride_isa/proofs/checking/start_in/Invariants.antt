use Rattle.std.proofs.Common.{◌≡◌, ◌<◌, length, slice_index}
use Rattle.stride_isa.specs.Listing.{cell_count, starts_of}
use Rattle.stride_isa.proofs.checking.start_in.Given as goal

-- what is left to pass is a cell of the declarations that are left, with the value that is looked for
abbrev pub invariant-loop-decl : goal.invariant-loop-decl
invariant-loop-decl l = (l.left < cell_count l.rest) × (slice_index (starts_of l.decls) l.cell ≡ slice_index (starts_of l.rest) l.left)

abbrev pub decreases-loop-decl : goal.decreases-loop-decl
decreases-loop-decl l = length l.rest

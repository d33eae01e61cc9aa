use Rattle.std.proofs.Common.{◌≡◌, length, get_or}
use Rattle.stride_isa.specs.Listing.{starts_of}
use Rattle.interleavings.specs.AtomicStep.{SharedWord}
use Rattle.interleavings.specs.Layout.{index_of, row_length, IsInRow}
use Rattle.interleavings.proofs.Begins.{first_words}
use Rattle.interleavings.proofs.simulation_start.starting_words.Given as goal

-- the cells so far have their starting values
abbrev pub invariant-loop-cell : goal.invariant-loop-cell
invariant-loop-cell l =
    (length l.words.items ≡ row_length l.layout.cells l.layout.monitors)
    × ((word : SharedWord) → IsInRow l.layout.cells l.layout.monitors word → get_or l.words.items (index_of l.layout.cells word) 0 ≡ first_words l.cell (starts_of l.program.decls) word)

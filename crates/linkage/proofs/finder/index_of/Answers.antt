use Rattle.std.proofs.Common.{arith}
use Rattle.linkage.proofs.Finds.{index_from}
use Rattle.linkage.proofs.finder.index_of.Goals as goal

pub returns : goal.returns
returns c =
    index_from c.args.traces.now c.args.row.now c.requires c.loop-cell.cell c.loop-cell.triples.items c.sorted.result (omega (arith, c.loop-cell-test.false, c.cells-cell-end.ensures.count)) c.loop-cell.invariant.listed c.sorted.ensures.members c.sorted.ensures.len

use Rattle.std.proofs.Common.{arith}
use Rattle.linkage.proofs.PlacedWrites.{placed_start, placed_starts}
use Rattle.linkage.proofs.placing.starting_values.Goals as goal

pub loop-cell-preserved : goal.loop-cell-preserved
loop-cell-preserved c =
    let put = rw c.place.ensures.place at c.put.ensures in
    placed_start c.args.traces.now c.args.spans.now c.requires c.loop-cell.cell c.start_of.result c.loop-cell.placing c.put.new.self (omega (arith, c.cells-cell-end.ensures.count)) c.start_of.ensures c.loop-cell.invariant put

pub returns : goal.returns
returns c = λ to.
    placed_starts c.args.traces.now c.args.spans.now c.requires c.loop-cell.cell to c.loop-cell.placing (omega (arith, c.loop-cell-test.false, c.cells-cell-end.ensures.count)) c.loop-cell.invariant

use Rattle.std.proofs.Common.{◌∙◌, arith}
use Rattle.recorder.proofs.Rows.{starts_all, starts_more}
use Rattle.recorder.proofs.session.starting_values.Goals as goal

pub loop-cell-preserved : goal.loop-cell-preserved
loop-cell-preserved c =
    c.in_ok-push.ensures.items ∙ starts_more c.each_cell_starts.ensures c.args.program.now.decls c.loop-cell.starts.items c.loop-cell.cell c.start_of.result (omega (arith, c.cells-cell-end.ensures.count)) c.loop-cell.invariant c.start_of.ensures

pub returns : goal.returns
returns c =
    c.loop-cell.invariant ∙ starts_all c.each_cell_starts.ensures c.args.program.now.decls c.loop-cell.cell (omega (arith, c.cells-cell-end.ensures.count))

use Rattle.std.proofs.Common.{arith}
use Rattle.interleavings.specs.AtomicStep.{Value}
use Rattle.interleavings.proofs.Ending.{values_more}
use Rattle.interleavings.proofs.Row.{index_inside}
use Rattle.interleavings.proofs.results.last_values.Goals as goal

pub loop-cell-preserved : goal.loop-cell-preserved
loop-cell-preserved c =
    let core = c.args.core.now in
    values_more core.words.items core.layout.cells c.loop-cell.cell c.value_word.result c.index.result.now c.loop-cell.values.items c.push.new.self.items c.in_ok-push.ensures.items c.loop-cell.invariant c.value_word.ensures
    (omega (arith, c.value_word.ensures, c.requires, index_inside core.layout.cells core.layout.monitors (Value c.loop-cell.cell) c.loop-cell-test.true))
    c.index.ensures

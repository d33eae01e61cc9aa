use Rattle.std.proofs.Common.{◌<◌, ◌≢◌, length, arith, get_or-set_other, get_or-set_same, below_more, length-set}
use Rattle.replayer.proofs.starting.starting_cells.Goals as goal

pub loop-cell-preserved : goal.loop-cell-preserved
loop-cell-preserved c =
    let lt : c.loop-cell.cell < length c.loop-cell.cells = omega arith in (
      omega (arith, length-set c.loop-cell.cells c.loop-cell.cell c.start_of.result),
      below_more _ _
          (λ k h. let ne : k ≢ c.loop-cell.cell = omega arith in rw get_or-set_other (c.loop-cell.invariant.1 k h))
          (rw get_or-set_same c.start_of.ensures),
    )

use Rattle.std.proofs.Common.{refl, arith, slice_index}
use Rattle.std.proofs.lemmas.List.FromFn.{map-range_with_len_more}
use Rattle.replayer.proofs.results.values_in.Goals as goal

pub loop-cell-preserved : goal.loop-cell-preserved
loop-cell-preserved c =
    rw (c.in_ok-push.ensures.items, c.loop-cell.invariant, map-range_with_len_more (λ cell. slice_index c.args.row.now cell) 0 c.loop-cell.cell c.loop-cell.cell (omega arith)) refl

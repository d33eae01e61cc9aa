use Rattle.std.proofs.Common.{◌∷◌, [], ◌++◌, map, sym, ap, ◌∙◌, arith}
use Rattle.std.specs.List.{range_with_len}
use Rattle.std.proofs.lemmas.List.FromFn.{map-range_with_len_more}
use Rattle.interleavings.specs.AtomicStep.{Value}
use Rattle.shared_rule.specs.Closing.{last_word}
use Rattle.recorder.proofs.taken.Taken.add_last_values.Goals as goal

pub loop-cell-preserved : goal.loop-cell-preserved
loop-cell-preserved c =
    let closed = c.args.closed.now in
    let before = c.loop-cell.invariant in
    record {
      values =
          c.push_spare.ensures.items
          ∙ ap (λ xs. xs ++ c.value.result ∷ []) before.values
          ∙ ap (λ x. map (λ cell. last_word closed (Value cell)) (range_with_len 0 c.loop-cell.cell) ++ x ∷ []) c.value.ensures
          ∙ sym (map-range_with_len_more (λ cell. last_word closed (Value cell)) 0 c.loop-cell.cell c.loop-cell.cell (omega arith));
      room = omega (arith, before.room, c.push_spare.ensures.spare);
      logs = before.logs;
      outputs = before.outputs;
      ends = before.ends;
    }

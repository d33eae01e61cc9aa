use Rattle.std.proofs.Common.{◌≡◌, [], ◌∷◌, ◌++◌, ◌∙◌, ap}
use Rattle.std.proofs.lemmas.List.{map_push}
use Rattle.event_order.specs.Tables.{counted, rows_of}
use Rattle.event_order.proofs.Rows.{zeros_row}
use Rattle.event_order.proofs.table.Counts.with_room.Goals as goal

pub loop-length-preserved : goal.loop-length-preserved
loop-length-preserved c = λ slot.
    let pushed : rows_of c.push.new.self.items ≡ rows_of c.loop-length.rows.items ++ c.in_ok-vec.field-0.items ∷ [] =
    rw c.in_ok-push.ensures.items (map_push (λ r. r.items) c.loop-length.rows.items c.in_ok-vec.field-0) in
    ap (λ rows. counted rows slot) (pushed ∙ ap (λ row. rows_of c.loop-length.rows.items ++ row ∷ []) (c.in_ok-vec.ensures.items_if_clones_equal (λ x same. same)))
    ∙ (zeros_row (rows_of c.loop-length.rows.items) _ slot ∙ c.loop-length.invariant slot)

use Rattle.std.proofs.Common.{◌≡◌, [], ◌∷◌, ◌++◌, ◌∙◌}
use Rattle.std.proofs.lemmas.List.{map_push}
use Rattle.event_order.specs.Tables.{rows_of}
use Rattle.event_order.proofs.Rows.{pushed_row}
use Rattle.event_order.proofs.table.Counts.add_rows.Goals as goal

pub loop-alloc-preserved : goal.loop-alloc-preserved
loop-alloc-preserved c = λ slot.
    let old = rows_of c.loop-alloc.self.rows.items in
    let pushed : rows_of c.push.new.self.items ≡ old ++ [] ∷ [] =
    rw (c.in_ok-push.ensures.items, ← c.new.ensures.items) (map_push (λ r. r.items) c.loop-alloc.self.rows.items c.new.result) in
    rw pushed (pushed_row old 0 slot ∙ c.loop-alloc.invariant slot)

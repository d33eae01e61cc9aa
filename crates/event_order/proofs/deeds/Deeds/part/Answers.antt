use Rattle.std.proofs.Common.{◌≡◌, [], length, arith, ap, sym, ◌∙◌}
use Rattle.std.proofs.lemmas.List.{get_or-map, length-map}
use Rattle.event_order.specs.Deeds.{size}
use Rattle.event_order.specs.Tables.{rows_of}
use Rattle.event_order.proofs.deeds.Deeds.part.Goals as goal

pub overflow_cast-count : goal.overflow_cast-count
overflow_cast-count c =
    let there = simp length-map at (rw (← c.self.view_is) at c.requires.thread) in
    let row : size (rows_of c.self.inside.rows.items) c.args.thread ≡ length c.index-row.result.now.items = ap length (get_or-map (λ row. row.items) c.self.inside.rows.items c.args.thread c.index-row.result.now [] there ∙ ap (λ row. row.items) (sym c.index-row.ensures)) in
    omega (arith, c.self.invariant.1 c.args.thread)

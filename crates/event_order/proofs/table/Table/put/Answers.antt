use Rattle.std.proofs.Common.{◌≡◌, ℕ, ◌<◌, [], None, Some, length, get_or, sym, ◌∙◌, ap}
use Rattle.std.proofs.lemmas.List.{length-map, map-set, get_or-map}
use Rattle.event_order.specs.Tables.{entry, rows_of}
use Rattle.event_order.proofs.Rows.{put_here, put_other}
use Rattle.event_order.proofs.table.Table.put.Goals as goal

pub returns : goal.returns
returns g c =
    let rows = c.add_rows.new.self.rows.items in
    let row = c.add_numbers.new.row in
    let slot = c.args.slot in
    let there : slot.row < length (rows_of rows) = simp length-map c.in_ok-add_rows.ensures.there in
    let within : slot.number < length row.items = c.in_ok-add_numbers.ensures.there in
    let was : get_or (rows_of rows) slot.row [] ≡ c.index_mut-row.result.now.items =
    get_or-map (λ r. r.items) rows slot.row c.index_mut-row.result.now [] c.in_ok-add_rows.ensures.there ∙ ap (λ r. r.items) (sym c.index_mut-row.ensures.value) in
    let same : (i : ℕ) → get_or row.items i None ≡ get_or (get_or (rows_of rows) slot.row []) i None =
    λ i. c.add_numbers.ensures.same i ∙ ap (λ r. get_or r i None) (sym was) in
    let written = map-set (λ r. r.items) rows slot.row (Rattle.std.specs.Vec.with_item row slot.number (Some c.args.value)) in
    record {
      here = ap (λ t. entry t slot) written ∙ put_here (rows_of rows) slot row.items None (Some c.args.value) there within;
      others = λ other apart. ap (λ t. entry t other) written ∙ (put_other (rows_of rows) slot row.items None (Some c.args.value) there same other apart ∙ c.add_rows.ensures.same other);
    }

use Rattle.std.proofs.Common.{◌≡◌, Some, sym}
use Rattle.event_order.specs.Deeds.{deed_at}
use Rattle.event_order.specs.Fronts.{done_of}
use Rattle.event_order.specs.Tables.{entry, rows_of}
use Rattle.event_order.proofs.Firsts.{back_least}
use Rattle.event_order.proofs.backs.step_back.Goals as goal

pub returns : goal.returns
returns c =
    let rows = c.args.deeds.now in
    let done = done_of c.args.done.now in
    let firsts = entry (rows_of c.args.firsts.now.rows.items) in
    let deed = c.in_ok-deed.deed in
    let there : deed_at rows c.args.at ≡ Some deed = sym c.in_ok-deed.ensures in
    rw (c.lesser.ensures, c.lesser-filled.ensures, c.first_for.ensures, c.first_for-2.ensures, c.needs.ensures, c.needs_too.ensures)
    (back_least rows done c.args.at deed c.place_before.result firsts there c.requires.firsts c.place_before.ensures)

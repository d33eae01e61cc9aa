use Rattle.std.proofs.Common.{◌≡◌, ◌∙◌, ◌-◌, arith}
use Rattle.std.specs.Prelude.{slice_index}
use Rattle.std.proofs.lemmas.List.{get_or_default}
use Rattle.linkage.proofs.EventLinks.{old_stored}
use Rattle.linkage.proofs.finding.is_old_stored.Goals as goal

pub returns-then-number-gt0 : goal.returns-then-number-gt0
returns-then-number-gt0 c =
    let values = c.args.row.now.values.items in
    let place = c.place.result - 1 in
    let read : c.index.result.now ≡ slice_index values place = c.index.ensures ∙ get_or_default values place _ 0 (omega (arith, c.place.ensures.inside, c.requires.row.shape.count)) in
    old_stored c.args.traces.now c.args.row.now c.args.cell c.args.old c.args.number place c.index.result.now c.requires.row c.requires.cell c.requires.number (omega arith) (omega (arith, c.place.ensures.place)) read

use Rattle.std.proofs.Common.{◌≡◌, ◌∙◌, ap, sym, length, arith, length-append}
use Rattle.std.specs.Prelude.{Some, slice_get, slice_index}
use Rattle.stride_base.specs.Ascending.{Triple}
use Rattle.std.proofs.lemmas.List.{get_or_default}
use Rattle.std.proofs.lemmas.Option.{slice_get-get_or}
use Rattle.linkage.specs.Finding.{Holds}
use Rattle.linkage.specs.Spans.{HasPlace}
use Rattle.linkage.proofs.Listed.{listed_step, listed_end}
use Rattle.linkage.proofs.finder.list_cell.Goals as goal

pub loop-number-preserved : goal.loop-number-preserved
loop-number-preserved c =
    let row = c.args.row.now in
    let n = c.loop-number.number in
    let top : c.index-number-end.result.now ≡ slice_index row.spans.greatest.items c.args.cell = c.index-number-end.ensures ∙ get_or_default row.spans.greatest.items c.args.cell _ 0 c.requires.cell in
    let has : HasPlace row.spans c.args.cell n = (c.requires.cell, omega (arith, top)) in
    let held : Holds row c.args.cell n c.index-value.result.now =
    ap (slice_get row.values.items) (sym c.place.ensures.place) ∙ (slice_get-get_or row.values.items c.place.result c.index-value.result.now (omega (arith, c.place.ensures.inside, c.requires.shape.count)) ∙ ap Some (sym c.index-value.ensures)) in
    record {
      listed = rw c.push_spare.ensures.items (listed_step row c.args.cell n c.loop-number.triples.items c.index-value.result.now has held c.loop-number.invariant.listed);
      room = omega (arith, ap length c.push_spare.ensures.items, c.push_spare.ensures.spare, c.loop-number.invariant.room, length-append {A = Triple});
    }

pub returns-2-clause-triples : goal.returns-2-clause-triples
returns-2-clause-triples c =
    let row = c.args.row.now in
    let n = c.loop-number.number in
    let top : c.index-number-end.result.now ≡ slice_index row.spans.greatest.items c.args.cell = c.index-number-end.ensures ∙ get_or_default row.spans.greatest.items c.args.cell _ 0 c.requires.cell in
    let has : HasPlace row.spans c.args.cell n = (c.requires.cell, omega (arith, top)) in
    let held : Holds row c.args.cell n c.index-value.result.now =
    ap (slice_get row.values.items) (sym c.place.ensures.place) ∙ (slice_get-get_or row.values.items c.place.result c.index-value.result.now (omega (arith, c.place.ensures.inside, c.requires.shape.count)) ∙ ap Some (sym c.index-value.ensures)) in
    rw c.push_spare.ensures.items
    (listed_end row c.args.cell n _ c.requires.cell (omega (arith, top)) (listed_step row c.args.cell n c.loop-number.triples.items c.index-value.result.now has held c.loop-number.invariant.listed))

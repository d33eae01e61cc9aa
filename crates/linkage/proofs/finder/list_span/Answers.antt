use Rattle.std.proofs.Common.{◌≡◌, ◌∙◌, ap, sym, arith}
use Rattle.std.specs.Prelude.{Some, slice_get}
use Rattle.std.proofs.lemmas.Option.{slice_get-get_or}
use Rattle.linkage.specs.Finding.{Holds}
use Rattle.linkage.proofs.Listed.{span_step}
use Rattle.linkage.proofs.finder.list_span.Goals as goal

pub loop-number-preserved : goal.loop-number-preserved
loop-number-preserved c =
    let row = c.args.row.now in
    let n = c.loop-number.number in
    let held : Holds row c.args.cell n c.index-value.result.now =
    ap (slice_get row.values.items) (sym c.place.ensures.place) ∙ (slice_get-get_or row.values.items c.place.result c.index-value.result.now (omega (arith, c.place.ensures.inside, c.requires.shape.count)) ∙ ap Some (sym c.index-value.ensures)) in
    record {
      order = omega (arith, c.loop-number.invariant.order);
      listed = rw c.push_spare.ensures.items (span_step row c.args.cell c.args.first n c.loop-number.triples.items c.index-value.result.now c.loop-number.invariant.order held c.loop-number.invariant.listed);
      room = omega (arith, c.push_spare.ensures.spare, c.loop-number.invariant.room);
    }

pub returns-2 : goal.returns-2
returns-2 c =
    let row = c.args.row.now in
    let n = c.loop-number.number in
    let held : Holds row c.args.cell n c.index-value.result.now =
    ap (slice_get row.values.items) (sym c.place.ensures.place) ∙ (slice_get-get_or row.values.items c.place.result c.index-value.result.now (omega (arith, c.place.ensures.inside, c.requires.shape.count)) ∙ ap Some (sym c.index-value.ensures)) in
    let last : n ≡ c.args.last = omega arith in
    rw (c.push_spare.ensures.items, sym last) (span_step row c.args.cell c.args.first n c.loop-number.triples.items c.index-value.result.now c.loop-number.invariant.order held c.loop-number.invariant.listed)

use Rattle.std.proofs.Common.{◌≡◌, ◌∙◌, ◌-◌, arith}
use Rattle.std.specs.Prelude.{slice_index}
use Rattle.std.proofs.lemmas.List.{get_or_default}
use Rattle.linkage.proofs.Finds.{near_hit, near_miss}
use Rattle.linkage.proofs.finder.near.Goals as goal

pub returns-then-index-value : goal.returns-then-index-value
returns-then-index-value c =
    let values = c.args.row.now.values.items in
    let place = c.place-place.result in
    let below = c.loop-below.below in
    let read : c.index.result.now ≡ slice_index values (place - below) = c.index.ensures ∙ get_or_default values (place - below) _ 0 (omega (arith, c.place-place.ensures.inside, c.requires.shape.count)) in
    near_hit c.args.row.now c.args.cell c.args.value c.args.bound below place c.index.result.now c.place-place.ensures.place (omega (arith, c.place-place.ensures.inside, c.requires.shape.count)) read (omega arith) c.loop-below.invariant c.if-index-value.true

pub loop-below-preserved : goal.loop-below-preserved
loop-below-preserved c =
    let values = c.args.row.now.values.items in
    let place = c.place-place.result in
    let below = c.loop-below.below in
    let read : c.index.result.now ≡ slice_index values (place - below) = c.index.ensures ∙ get_or_default values (place - below) _ 0 (omega (arith, c.place-place.ensures.inside, c.requires.shape.count)) in
    near_miss c.args.row.now c.args.cell c.args.value c.args.bound below place c.index.result.now c.place-place.ensures.place (omega (arith, c.place-place.ensures.inside, c.requires.shape.count)) read (omega arith) c.loop-below.invariant c.if-index-value.false

use Rattle.std.proofs.Common.{◌∙◌, ap, sym, subst, arith}
use Rattle.std.specs.Prelude.{Option, Some}
use Rattle.std.proofs.lemmas.Option.{slice_get-get_or}
use Rattle.linkage.specs.declared.numbered.Numbered.{Numbered}
use Rattle.linkage.specs.Numbers.{IsFollowed}
use Rattle.linkage.proofs.NumberedLists.{item_read}
use Rattle.linkage.proofs.GapLists.{none_left_out, found_left_out, followed_step}
use Rattle.linkage.proofs.gaps.first_gap.Goals as goal

pub bounds-greatest-item : goal.bounds-greatest-item
bounds-greatest-item g c =
    let x = c.index-items-i.result in
    c.requires.owned c.loop-i.i x.owner x.number (item_read c.args.items.now c.loop-i.i x (omega arith) c.index-items-i.is)

pub offset_bounds-greatest-item : goal.offset_bounds-greatest-item
offset_bounds-greatest-item g c =
    let x = c.index-items-i.result in
    let below = c.requires.owned c.loop-i.i x.owner x.number (item_read c.args.items.now c.loop-i.i x (omega arith) c.index-items-i.is) in
    omega (arith, below, c.requires.few)

pub overflow_cast-item : goal.overflow_cast-item
overflow_cast-item g c =
    let x = c.index-items-i.result in
    let below = c.requires.owned c.loop-i.i x.owner x.number (item_read c.args.items.now c.loop-i.i x (omega arith) c.index-items-i.is) in
    omega (arith, below, c.requires.few)

pub returns-in-Some : goal.returns-in-Some
returns-in-Some g c =
    let x = c.index-items-i.result in
    let is = slice_get-get_or c.args.items.now c.loop-i.i x (omega arith) ∙ ap Some (sym c.index-items-i.is) in
    let owned = c.requires.owned c.loop-i.i x.owner x.number (item_read c.args.items.now c.loop-i.i x (omega arith) c.index-items-i.is) in
    let P : Option (Numbered _) → Type 0 = IsFollowed x in
    let found = c.in-Some.ensures in
    found_left_out c.args.items.now c.args.greatest.now c.requires.ordered c.requires.started c.loop-i.i c.loop-i.invariant x c.in-Some.missing is owned found.0 found.1 (λ after. found.2 (subst P (sym c.item_at-next.ensures) after))

pub loop-i-preserved : goal.loop-i-preserved
loop-i-preserved g c =
    let x = c.index-items-i.result in
    let is = slice_get-get_or c.args.items.now c.loop-i.i x (omega arith) ∙ ap Some (sym c.index-items-i.is) in
    let P : Option (Numbered _) → Type 0 = IsFollowed x in
    followed_step c.args.items.now c.args.greatest.now c.requires.ordered c.requires.started c.loop-i.i x c.loop-i.invariant is (λ more. subst P c.item_at-next.ensures (c.in_default.ensures more))

pub returns : goal.returns
returns g c =
    none_left_out c.args.items.now c.args.greatest.now c.requires.ordered c.requires.started c.loop-i.i c.loop-i.invariant (omega (arith, c.loop-i-test.false))

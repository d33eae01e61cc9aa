use Rattle.std.proofs.Common.{◌-◌, arith}
use Rattle.linkage.proofs.NumberedLists.{item_read, none_twice, found_twice, apart_step}
use Rattle.linkage.proofs.numbered.first_twice.Goals as goal
use Rattle.linkage.proofs.numbered.first_twice.Goals.{else-before-item-via-then-before-item+else-before-item-2, else-before-item-via-else-before-item}

pub returns-then-before-item-2 : goal.returns-then-before-item-2
returns-then-before-item-2 g c =
    let x = c.index-items-i.result in
    let y = c.index-items-i-in-loop-i.result in
    let before = item_read c.args.items.now (c.loop-i.i - 1) x (omega arith) c.index-items-i.is in
    let here = item_read c.args.items.now c.loop-i.i y (omega arith) c.index-items-i-in-loop-i.is in
    found_twice c.args.items.now c.requires c.loop-i.i y.owner y.number (omega arith) c.loop-i.invariant (rw (c.if-before-item.true, c.if-before-item-2.true) at before) here

pub loop-i-preserved : goal.loop-i-preserved
loop-i-preserved g c =
    let x = c.index-items-i.result in
    let y = c.index-items-i-in-loop-i.result in
    let before = item_read c.args.items.now (c.loop-i.i - 1) x (omega arith) c.index-items-i.is in
    let here = item_read c.args.items.now c.loop-i.i y (omega arith) c.index-items-i-in-loop-i.is in
    apart_step c.args.items.now c.loop-i.i x.owner x.number y.owner y.number c.loop-i.invariant before here
    (λ o n. elim c.else-before-item.branch [
      | else-before-item-via-then-before-item+else-before-item-2 w ↦ w.if-before-item-2.false n
      | else-before-item-via-else-before-item w ↦ w.if-before-item.false o
    ])

pub returns : goal.returns
returns g c =
    none_twice c.args.items.now c.requires c.loop-i.i (omega (arith, c.loop-i-test.false)) c.loop-i.invariant

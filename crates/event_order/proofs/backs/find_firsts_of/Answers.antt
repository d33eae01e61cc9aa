use Rattle.std.proofs.Common.{arith}
use Rattle.event_order.specs.Fronts.{done_of}
use Rattle.event_order.specs.Tables.{entry, rows_of}
use Rattle.event_order.proofs.Firsts.{firsts_begin, firsts_end, firsts_more}
use Rattle.event_order.proofs.backs.find_firsts_of.Goals as goal

pub loop-place-init : goal.loop-place-init
loop-place-init c = firsts_begin c.args.deeds.now (done_of c.args.done.now) c.args.thread (entry (rows_of c.args.firsts.now.rows.items)) c.requires.firsts

pub loop-place-preserved : goal.loop-place-preserved
loop-place-preserved c =
    firsts_more c.args.deeds.now (done_of c.args.done.now) c.args.thread c.loop-place.place (entry (rows_of c.loop-place.firsts.rows.items)) (entry (rows_of c.keep_first.new.firsts.rows.items))
    c.loop-place.auto.place (let small = c.loop-place-test.true in let count = c.count-place-end.ensures.count in omega arith) c.loop-place.invariant
    (rw (← c.gives.ensures) c.in_ok-keep_first.ensures)

pub returns : goal.returns
returns c =
    firsts_end c.args.deeds.now (done_of c.args.done.now) c.args.thread c.loop-place.place (entry (rows_of c.loop-place.firsts.rows.items))
    (let small = c.loop-place-test.false in let count = c.count-place-end.ensures.count in omega arith) c.loop-place.invariant

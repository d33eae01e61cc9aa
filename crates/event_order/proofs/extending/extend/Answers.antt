use Rattle.std.proofs.Common.{◌-◌, length, arith}
use Rattle.event_order.specs.Deeds.{size}
use Rattle.event_order.specs.Fronts.{done_of}
use Rattle.event_order.specs.Tables.{counted, rows_of}
use Rattle.event_order.proofs.Greedy.{kept_more, kept_start, next_there, rest_falls}
use Rattle.event_order.proofs.Sums.{upto_le}
use Rattle.event_order.proofs.extending.extend.Goals as goal

pub loop-ready-init : goal.loop-ready-init
loop-ready-init c = rw (c.reserve.ensures.items, c.new-order.ensures.items) (record {
  front = c.in_ok-front.ensures.front;
  nexts = c.in_ok-front.ensures.nexts;
  waiters = c.in_ok-front.ensures.waiters;
  ready = c.in_ok-front.ensures.ready;
  room = (
      let rows = c.args.deeds.now in
      let less = upto_le (λ thread. size rows thread - done_of c.in_ok-front.front.done.items thread) (size rows) (length rows) (λ thread there. omega arith) in
      let all = c.total.ensures in
      let room = c.in_ok-reserve.ensures.room in
      omega arith);
  kept = kept_start c.args.deeds.now (done_of c.in_ok-front.front.done.items) c.in_ok-front.ensures.none;
})

pub loop-ready-smaller : goal.loop-ready-smaller
loop-ready-smaller c =
    rest_falls c.args.deeds.now (done_of c.loop-ready.front.done.items) (done_of c.stand.new.self.done.items) c.in-Some.ready.thread c.stand.ensures.raised
    (next_there c.args.deeds.now (counted (rows_of c.loop-ready.front.waiting.rows.items)) c.loop-ready.front.done.items c.loop-ready.invariant.front c.in-Some.ready.thread c.in-Some.ensures.1)

pub push_spare-requires : goal.push_spare-requires
push_spare-requires c =
    let falls = rest_falls c.args.deeds.now (done_of c.loop-ready.front.done.items) (done_of c.stand.new.self.done.items) c.in-Some.ready.thread c.stand.ensures.raised
    (next_there c.args.deeds.now (counted (rows_of c.loop-ready.front.waiting.rows.items)) c.loop-ready.front.done.items c.loop-ready.invariant.front c.in-Some.ready.thread c.in-Some.ensures.1) in
    let room = c.loop-ready.invariant.room in
    omega arith

pub loop-ready-preserved : goal.loop-ready-preserved
loop-ready-preserved c = rw c.push_spare.ensures.items (record {
  front = c.stand.ensures.front;
  nexts = c.stand.ensures.nexts;
  waiters = c.stand.ensures.waiters;
  ready = c.stand.ensures.ready;
  room = (
      let falls = rest_falls c.args.deeds.now (done_of c.loop-ready.front.done.items) (done_of c.stand.new.self.done.items) c.in-Some.ready.thread c.stand.ensures.raised
      (next_there c.args.deeds.now (counted (rows_of c.loop-ready.front.waiting.rows.items)) c.loop-ready.front.done.items c.loop-ready.invariant.front c.in-Some.ready.thread c.in-Some.ensures.1) in
      let room = c.loop-ready.invariant.room in
      let spare = c.push_spare.ensures.spare in
      omega arith);
  kept = kept_more c.args.deeds.now (counted (rows_of c.loop-ready.front.waiting.rows.items)) c.loop-ready.front.done.items c.in-Some.ready.thread (done_of c.stand.new.self.done.items) c.loop-ready.order.items c.loop-ready.invariant.front c.in-Some.ensures.1 c.in-Some.ensures.2 c.stand.ensures.raised c.loop-ready.invariant.kept;
})

use Rattle.std.proofs.Common.{◌-◌, ◌≤◌, None, length}
use Rattle.event_order.specs.Deeds.{size}
use Rattle.event_order.specs.Fronts.{AreNexts, AreReady, AreWaiters, IsFront, IsKept, done_of}
use Rattle.event_order.specs.Sums.{upto}
use Rattle.event_order.specs.Tables.{counted, rows_of}
use Rattle.event_order.proofs.extending.extend.Given as goal

abbrev pub invariant-loop-ready : goal.invariant-loop-ready
invariant-loop-ready l = record {
  front : IsFront l.deeds (counted (rows_of l.front.waiting.rows.items)) l.front.done.items;
  nexts : AreNexts l.deeds (counted (rows_of l.front.waiting.rows.items)) None l.front.done.items l.front.next.items;
  waiters : AreWaiters l.front.next.items (rows_of l.front.waiters.items);
  ready : AreReady l.front.next.items l.front.ready;
  room : upto (λ thread. size l.deeds thread - done_of l.front.done.items thread) (length l.deeds) ≤ l.order.spare;
  kept : IsKept l.deeds (done_of l.front.done.items) l.order.items;
}

abbrev pub decreases-loop-ready : goal.decreases-loop-ready
decreases-loop-ready l = upto (λ thread. size l.deeds thread - done_of l.front.done.items thread) (length l.deeds)

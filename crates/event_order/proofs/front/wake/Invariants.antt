use Rattle.std.proofs.Common.{◌≡◌, ℕ, ◌<◌, length}
use Rattle.event_order.specs.Fronts.{AreReady, AreWaiters}
use Rattle.event_order.specs.Tables.{counted, rows_of}
use Rattle.event_order.proofs.Waiters.{IsKnown}
use Rattle.event_order.proofs.front.wake.Given as goal

abbrev pub invariant-loop-thread : goal.invariant-loop-thread
invariant-loop-thread l = record {
  count : length l.next.items ≡ length l.deeds;
  known : (thread : ℕ) → thread < length l.deeds → IsKnown l.deeds (counted (rows_of l.waiting.rows.items)) l.done l.emptied l.next.items l.left thread;
  waiters : AreWaiters l.next.items (rows_of l.waiters.items);
  ready : AreReady l.next.items l.ready;
}

abbrev pub decreases-loop-thread : goal.decreases-loop-thread
decreases-loop-thread l = l.left.bits

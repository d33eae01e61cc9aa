use Rattle.std.proofs.Common.{◌≡◌, ℕ, ◌<◌, None, length}
use Rattle.event_order.specs.Fronts.{AreWaiters, IsNextAt, done_of, next_of}
use Rattle.event_order.specs.Tables.{counted, rows_of}
use Rattle.event_order.proofs.front.first_nexts.Given as goal

abbrev pub invariant-loop-thread : goal.invariant-loop-thread
invariant-loop-thread l = record {
  count : length l.next.items ≡ l.thread;
  each : (other : ℕ) → other < l.thread → IsNextAt l.deeds (counted (rows_of l.waiting.rows.items)) None (record { thread = other; place = done_of l.done other }) (next_of l.next.items other);
  noted : AreWaiters l.next.items (rows_of l.waiters.items);
}

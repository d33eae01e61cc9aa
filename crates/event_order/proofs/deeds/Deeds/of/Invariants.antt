use Rattle.std.proofs.Common.{ℕ, ◌+◌, ◌*◌, ◌≤◌, length, take, sum_by}
use Rattle.stride_isa.specs.Limits.{fuel_limit}
use Rattle.event_order.specs.Deeds.{AreRowsOf, size}
use Rattle.event_order.specs.Tables.{rows_of}
use Rattle.event_order.proofs.deeds.Deeds.of.Given as goal

abbrev pub invariant-loop-thread : goal.invariant-loop-thread
invariant-loop-thread g l = record {
  rows : AreRowsOf l.traces l.links l.thread (rows_of l.rows.items);
  few : (thread : ℕ) → size (rows_of l.rows.items) thread ≤ fuel_limit;
  looks : l.steps ≤ l.initial.steps + 2 * sum_by length (take l.thread l.traces.events);
}

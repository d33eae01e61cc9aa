use Rattle.std.proofs.Common.{ℕ, ◌<◌, ◌≤◌}
use Rattle.stride_isa.specs.Limits.{fuel_limit}
use Rattle.event_order.specs.Deeds.{size}
use Rattle.event_order.proofs.deeds.Deeds.longest.Given as goal

abbrev pub invariant-loop-thread : goal.invariant-loop-thread
invariant-loop-thread l = record {
  longest : (thread : ℕ) → thread < l.thread → size l.self thread ≤ l.longest;
  small : l.longest ≤ fuel_limit;
}

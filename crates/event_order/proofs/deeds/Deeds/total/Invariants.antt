use Rattle.std.proofs.Common.{◌≡◌, ◌*◌, ◌≤◌}
use Rattle.stride_isa.specs.Limits.{fuel_limit}
use Rattle.event_order.specs.Deeds.{size}
use Rattle.event_order.specs.Sums.{upto}
use Rattle.event_order.proofs.deeds.Deeds.total.Given as goal

abbrev pub invariant-loop-thread : goal.invariant-loop-thread
invariant-loop-thread l = record {
  total : l.total ≡ upto (size l.self) l.thread;
  few : l.total ≤ l.thread * fuel_limit;
}

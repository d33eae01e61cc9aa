use Rattle.std.proofs.Common.{◌≡◌, ℕ, length}
use Rattle.event_order.specs.Fronts.{done_of}
use Rattle.event_order.proofs.front.zeros.Given as goal

abbrev pub invariant-loop : goal.invariant-loop
invariant-loop l = record {
  count : length l.zeros.items ≡ l.counter;
  zeros : (i : ℕ) → done_of l.zeros.items i ≡ 0;
}

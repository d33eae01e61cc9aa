use Rattle.std.proofs.Common.{ℕ, ◌<◌, ◌≤◌}
use Rattle.event_order.specs.Deeds.{size}
use Rattle.event_order.specs.Fronts.{done_of}
use Rattle.event_order.proofs.backs.first_left.Given as goal

abbrev pub invariant-loop-thread : goal.invariant-loop-thread
invariant-loop-thread l = (other : ℕ) → other < l.thread → size l.deeds other ≤ done_of l.done other

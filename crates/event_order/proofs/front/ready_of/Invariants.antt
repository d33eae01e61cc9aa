use Rattle.std.proofs.Common.{◌≡◌, ◌<◌, ℕ}
use Rattle.event_order.specs.Fronts.{next_of}
use Rattle.event_order.specs.ThreadSets.{Has}
use Rattle.event_order.specs.declared.deed.Deed.{Deed}
use Rattle.event_order.specs.declared.front.Next.TheVariants.{Ready}
use Rattle.event_order.proofs.front.ready_of.Given as goal

abbrev pub invariant-loop-thread : goal.invariant-loop-thread
invariant-loop-thread l = record {
  has : (other : ℕ) (deed : Deed) → other < l.thread → next_of l.next other ≡ Ready deed → Has l.ready other;
  only : (other : ℕ) → Has l.ready other → (deed : Deed) × (next_of l.next other ≡ Ready deed);
}

use Rattle.event_order.proofs.LeastOrCycle.{least_or_cycle}
use Rattle.event_order.proofs.laws.least_or_cycle.Goals as goal

pub returns : goal.returns
returns c = least_or_cycle

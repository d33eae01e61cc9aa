use Rattle.event_order.proofs.OneRound.{one_cycle}
use Rattle.event_order.proofs.laws.one_cycle.Goals as goal

pub returns : goal.returns
returns c = one_cycle

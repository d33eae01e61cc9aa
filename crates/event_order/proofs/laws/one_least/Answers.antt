use Rattle.event_order.proofs.OneLeast.{one_least}
use Rattle.event_order.proofs.laws.one_least.Goals as goal

pub returns : goal.returns
returns c = one_least

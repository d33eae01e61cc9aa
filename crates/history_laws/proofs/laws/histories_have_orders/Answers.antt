use Rattle.history_laws.proofs.Orders.{histories-have-orders}
use Rattle.history_laws.proofs.laws.histories_have_orders.Goals as goal

pub returns : goal.returns
returns c = histories-have-orders c.histories_are_linked.ensures c.histories_are_ordered.ensures c.links_or_refusal.ensures c.least_or_cycle.ensures

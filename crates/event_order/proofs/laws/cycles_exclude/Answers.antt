use Rattle.event_order.proofs.Excluding.{cycle_excludes}
use Rattle.event_order.proofs.laws.cycles_exclude.Goals as goal

pub returns : goal.returns
returns c = cycle_excludes

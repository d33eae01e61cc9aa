use Rattle.event_order.proofs.Making.{deeds_all}
use Rattle.event_order.proofs.arranging.arrange.Goals as goal

pub returns-clause-answer : goal.returns-clause-answer
returns-clause-answer g c = c.arrange_deeds.ensures c.args.traces.now c.args.links.now (deeds_all c.args.traces.now c.args.links.now c.in_ok-deeds.deeds c.requires.linked c.in_ok-deeds.ensures.deeds)

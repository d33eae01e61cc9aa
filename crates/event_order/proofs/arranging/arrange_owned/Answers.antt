use Rattle.event_order.proofs.Making.{deeds_all}
use Rattle.event_order.proofs.arranging.arrange_owned.Goals as goal

pub returns-clause-answer : goal.returns-clause-answer
returns-clause-answer g c = c.arrange_deeds.ensures c.args.traces c.args.links (deeds_all c.args.traces c.args.links c.in_ok-deeds.deeds c.requires.linked c.in_ok-deeds.ensures.deeds)

use Rattle.interleavings.proofs.MachineLaws.{after_event-made}
use Rattle.interleavings.proofs.laws.event_makes_more.Goals as goal

pub returns : goal.returns
returns c = after_event-made (record { moved = c.fuel_is_left.ensures.moved; settled = c.fuel_is_left.ensures.settled; answered = c.fuel_is_left.ensures.answered; made = c.settled_makes_no_less.ensures })

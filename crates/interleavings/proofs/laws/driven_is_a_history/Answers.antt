use Rattle.interleavings.proofs.Settling.{driven-history}
use Rattle.interleavings.proofs.laws.driven_is_a_history.Goals as goal

pub returns : goal.returns
returns c = driven-history (record { moved = c.fuel_is_left.ensures.moved; settled = c.fuel_is_left.ensures.settled; answered = c.fuel_is_left.ensures.answered; made = c.settled_makes_no_less.ensures })

use Rattle.interleavings.proofs.ShortLogs.{driven-short}
use Rattle.interleavings.proofs.laws.driven_is_short.Goals as goal

pub returns : goal.returns
returns c = driven-short (record { moved = c.fuel_is_left.ensures.moved; settled = c.fuel_is_left.ensures.settled; answered = c.fuel_is_left.ensures.answered; made = c.settled_makes_no_less.ensures })

use Rattle.interleavings.proofs.Settling.{nothing-left}
use Rattle.interleavings.proofs.laws.nothing_is_left.Goals as goal

pub returns : goal.returns
returns c = nothing-left (record { moved = c.fuel_is_left.ensures.moved; settled = c.fuel_is_left.ensures.settled; answered = c.fuel_is_left.ensures.answered; made = c.settled_makes_no_less.ensures })

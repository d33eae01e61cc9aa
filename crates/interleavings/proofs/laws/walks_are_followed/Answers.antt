use Rattle.interleavings.proofs.WalksFollowed.{walk-followed}
use Rattle.interleavings.proofs.laws.walks_are_followed.Goals as goal

pub returns : goal.returns
returns c = walk-followed (record { moved = c.fuel_is_left.ensures.moved; settled = c.fuel_is_left.ensures.settled; answered = c.fuel_is_left.ensures.answered; made = c.settled_makes_no_less.ensures })

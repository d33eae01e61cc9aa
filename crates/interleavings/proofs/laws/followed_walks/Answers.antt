use Rattle.interleavings.proofs.FollowedWalks.{followed-walk}
use Rattle.interleavings.proofs.laws.followed_walks.Goals as goal

pub returns : goal.returns
returns c = followed-walk (record { moved = c.fuel_is_left.ensures.moved; settled = c.fuel_is_left.ensures.settled; answered = c.fuel_is_left.ensures.answered; made = c.settled_makes_no_less.ensures })

use Rattle.event_order.proofs.FollowedRanges.{followed_in_range}
use Rattle.event_order.proofs.laws.followed_are_in_range.Goals as goal

pub returns : goal.returns
returns c = λ p fuel logs all valid some is. followed_in_range c.followed_walks.ensures c.each_cell_starts.ensures p valid fuel some logs all is

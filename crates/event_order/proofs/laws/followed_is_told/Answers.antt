use Rattle.event_order.specs.Cycles.{StepsBack}
use Rattle.event_order.proofs.Rounds.{followed_round}
use Rattle.event_order.proofs.laws.followed_is_told.Goals as goal

pub returns : goal.returns
returns c = λ traces links start cycle left least followed. record {
  start = start;
  left = left;
  least = least;
  round = followed_round (StepsBack traces links) start cycle followed;
}

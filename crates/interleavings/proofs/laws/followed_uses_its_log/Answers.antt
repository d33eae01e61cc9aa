use Rattle.interleavings.proofs.LogsUsed.{log_is_used}
use Rattle.interleavings.proofs.laws.followed_uses_its_log.Goals as goal

pub returns : goal.returns
returns c = log_is_used (record { moved = c.fuel_is_left.ensures.moved; settled = c.fuel_is_left.ensures.settled; answered = c.fuel_is_left.ensures.answered; made = c.settled_makes_no_less.ensures })

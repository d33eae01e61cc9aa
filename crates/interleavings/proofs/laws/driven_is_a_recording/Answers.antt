use Rattle.interleavings.proofs.Recorded.{driven-recording}
use Rattle.interleavings.proofs.laws.driven_is_a_recording.Goals as goal

pub returns : goal.returns
returns c = driven-recording (record { moved = c.fuel_is_left.ensures.moved; settled = c.fuel_is_left.ensures.settled; answered = c.fuel_is_left.ensures.answered; made = c.settled_makes_no_less.ensures })

use Rattle.interleavings.proofs.GivingUp.{driven-gives_up}
use Rattle.interleavings.proofs.laws.driven_gives_up.Goals as goal

pub returns : goal.returns
returns c = driven-gives_up

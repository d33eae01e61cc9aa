use Rattle.sc_machine.proofs.Standing.{settled-stands}
use Rattle.sc_machine.proofs.laws.settled_stands.Goals as goal

pub returns : goal.returns
returns c = settled-stands

use Rattle.sc_machine.proofs.Output.{settled-out, settled-tagged}
use Rattle.sc_machine.proofs.laws.settled_prints.Goals as goal

pub returns : goal.returns
returns c = λ p fuel t s. (settled-out p fuel t s, settled-tagged p fuel t s)

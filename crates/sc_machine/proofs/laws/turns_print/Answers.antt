use Rattle.sc_machine.proofs.Output.{turns-out, turns-tagged}
use Rattle.sc_machine.proofs.laws.turns_print.Goals as goal

pub returns : goal.returns
returns c = λ p fuel t n s. (turns-out p fuel t n s, turns-tagged p fuel t n s)

use Rattle.sc_machine.proofs.Refusals.{turns-append}
use Rattle.sc_machine.proofs.laws.turns_join.Goals as goal

pub returns : goal.returns
returns c = turns-append

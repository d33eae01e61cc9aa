use Rattle.sc_machine.proofs.Single.{run_of-turns}
use Rattle.sc_machine.proofs.laws.turns_are_steps.Goals as goal

pub returns : goal.returns
returns c = run_of-turns

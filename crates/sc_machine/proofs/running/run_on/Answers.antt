use Rattle.sc_machine.proofs.Turning.{ran_on}
use Rattle.sc_machine.proofs.running.run_on.Goals as goal

pub returns-clause-ran : goal.returns-clause-ran
returns-clause-ran c = ran_on _ _ _ _ _ _ _ _ c.run_turns-ended.ensures.ran

use Rattle.sc_machine.proofs.Refusals.{replayed-made, replayed-refused}
use Rattle.sc_machine.proofs.laws.replay_along_turns.Goals as goal

pub returns-clause-made : goal.returns-clause-made
returns-clause-made c = replayed-made

pub returns-clause-refused : goal.returns-clause-refused
returns-clause-refused c = replayed-refused

use Rattle.sc_machine.proofs.TurnsOfOne.{turns_taken}
use Rattle.sc_machine.proofs.laws.turns_in_a_row.Goals as goal

pub returns : goal.returns
returns c = turns_taken

use Rattle.sc_machine.proofs.Told.{outputs-told}
use Rattle.sc_machine.proofs.laws.outputs_are_lines.Goals as goal

pub returns : goal.returns
returns c = outputs-told

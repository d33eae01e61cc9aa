use Rattle.sc_machine.proofs.Starts.{ready-settled}
use Rattle.sc_machine.proofs.laws.starts_settle.Goals as goal

pub returns : goal.returns
returns c = ready-settled

use Rattle.histories.proofs.Falling.{names-stay}
use Rattle.histories.proofs.laws.names_stay.Goals as goal

pub returns : goal.returns
returns c = names-stay

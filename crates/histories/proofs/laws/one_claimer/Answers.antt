use Rattle.histories.proofs.Owners.{one-claimer}
use Rattle.histories.proofs.laws.one_claimer.Goals as goal

pub returns : goal.returns
returns c = one-claimer

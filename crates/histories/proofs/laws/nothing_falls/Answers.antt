use Rattle.histories.proofs.Falling.{nothing-falls}
use Rattle.histories.proofs.laws.nothing_falls.Goals as goal

pub returns : goal.returns
returns c = nothing-falls

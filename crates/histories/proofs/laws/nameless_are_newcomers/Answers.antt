use Rattle.histories.proofs.Falling.{nameless-newcomers}
use Rattle.histories.proofs.laws.nameless_are_newcomers.Goals as goal

pub returns : goal.returns
returns c = nameless-newcomers

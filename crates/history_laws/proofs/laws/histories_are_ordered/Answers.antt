use Rattle.history_laws.proofs.Ordered.{histories-ordered}
use Rattle.history_laws.proofs.laws.histories_are_ordered.Goals as goal

pub returns : goal.returns
returns c = histories-ordered c.histories_have_chronicles.ensures

use Rattle.history_laws.proofs.Linked.{histories-linked}
use Rattle.history_laws.proofs.laws.histories_are_linked.Goals as goal

pub returns : goal.returns
returns c = histories-linked c.histories_have_chronicles.ensures

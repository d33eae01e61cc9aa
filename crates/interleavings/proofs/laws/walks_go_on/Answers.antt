use Rattle.interleavings.proofs.Walks.{walks-go_on}
use Rattle.interleavings.proofs.laws.walks_go_on.Goals as goal

pub returns : goal.returns
returns c = walks-go_on

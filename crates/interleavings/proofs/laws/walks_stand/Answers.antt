use Rattle.interleavings.proofs.StandingBy.{stands-by}
use Rattle.interleavings.proofs.laws.walks_stand.Goals as goal

pub returns : goal.returns
returns c = stands-by

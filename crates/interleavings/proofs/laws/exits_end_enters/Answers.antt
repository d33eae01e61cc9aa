use Rattle.interleavings.proofs.ExitsEnd.{exits-end}
use Rattle.interleavings.proofs.laws.exits_end_enters.Goals as goal

pub returns : goal.returns
returns c = exits-end

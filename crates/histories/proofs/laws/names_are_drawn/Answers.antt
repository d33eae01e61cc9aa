use Rattle.histories.proofs.Names.{names-drawn}
use Rattle.histories.proofs.laws.names_are_drawn.Goals as goal

pub returns : goal.returns
returns c = names-drawn

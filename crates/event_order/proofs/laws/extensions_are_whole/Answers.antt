use Rattle.event_order.proofs.Whole.{extensions_are_whole as law}
use Rattle.event_order.proofs.laws.extensions_are_whole.Goals as goal

pub returns : goal.returns
returns c = law

use Rattle.histories.proofs.Chronicles.{chronicles}
use Rattle.histories.proofs.laws.histories_have_chronicles.Goals as goal

pub returns : goal.returns
returns c = chronicles

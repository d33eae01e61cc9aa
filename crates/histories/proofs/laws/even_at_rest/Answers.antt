use Rattle.histories.proofs.Owners.{even-at_rest}
use Rattle.histories.proofs.laws.even_at_rest.Goals as goal

pub returns : goal.returns
returns c = even-at_rest

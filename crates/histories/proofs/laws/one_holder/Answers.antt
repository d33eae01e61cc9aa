use Rattle.histories.proofs.Owners.{one-holder}
use Rattle.histories.proofs.laws.one_holder.Goals as goal

pub returns : goal.returns
returns c = one-holder

use Rattle.histories.proofs.Falling.{seen-past}
use Rattle.histories.proofs.laws.what_is_seen_is_past.Goals as goal

pub returns : goal.returns
returns c = seen-past

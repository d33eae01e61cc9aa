use Rattle.histories.proofs.Owners.{update-meets}
use Rattle.histories.proofs.laws.updates_meet_the_write_before.Goals as goal

pub returns : goal.returns
returns c = update-meets

use Rattle.log_format.proofs.BundleLaws.{nothing_wrong_before as law}
use Rattle.log_format.proofs.laws.nothing_wrong_before.Goals as goal

pub returns : goal.returns
returns c = law

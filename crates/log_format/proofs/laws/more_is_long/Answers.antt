use Rattle.log_format.proofs.BundleLaws.{more_is_long as law}
use Rattle.log_format.proofs.laws.more_is_long.Goals as goal

pub returns : goal.returns
returns c = law

use Rattle.log_format.proofs.BundleLaws.{cut_is_short as law}
use Rattle.log_format.proofs.laws.cut_is_short.Goals as goal

pub returns : goal.returns
returns c = law

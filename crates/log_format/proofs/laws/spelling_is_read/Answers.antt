use Rattle.log_format.proofs.BundleLaws.{spelling_is_read as law}
use Rattle.log_format.proofs.laws.spelling_is_read.Goals as goal

pub returns : goal.returns
returns c = law

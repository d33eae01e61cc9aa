use Rattle.log_format.proofs.BundleLaws.{wrong_stays_wrong as law}
use Rattle.log_format.proofs.laws.wrong_stays_wrong.Goals as goal

pub returns : goal.returns
returns c = law

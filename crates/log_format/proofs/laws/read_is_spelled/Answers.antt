use Rattle.log_format.proofs.BundleLaws.{read_is_spelled as law}
use Rattle.log_format.proofs.laws.read_is_spelled.Goals as goal

pub returns : goal.returns
returns c = law

use Rattle.log_format.proofs.BundleLaws.{short_is_begun as law}
use Rattle.log_format.proofs.laws.short_is_begun.Goals as goal

pub returns : goal.returns
returns c = law

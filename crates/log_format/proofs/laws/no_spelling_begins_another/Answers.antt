use Rattle.log_format.proofs.BundleLaws.{no_spelling_begins_another as law}
use Rattle.log_format.proofs.laws.no_spelling_begins_another.Goals as goal

pub returns : goal.returns
returns c = law

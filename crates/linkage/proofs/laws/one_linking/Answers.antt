use Rattle.linkage.proofs.Unique.{same_links}
use Rattle.linkage.proofs.laws.one_linking.Goals as goal

pub returns : goal.returns
returns c = same_links

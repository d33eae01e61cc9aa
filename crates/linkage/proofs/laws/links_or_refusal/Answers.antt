use Rattle.linkage.proofs.LinksOrRefusal.{links_or_refusal}
use Rattle.linkage.proofs.laws.links_or_refusal.Goals as goal

pub returns : goal.returns
returns c = links_or_refusal

use Rattle.linkage.proofs.Unique.{same_answer}
use Rattle.linkage.proofs.laws.one_answer.Goals as goal

pub returns : goal.returns
returns c = same_answer

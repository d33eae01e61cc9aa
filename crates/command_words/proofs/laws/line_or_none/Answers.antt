use Rattle.command_words.proofs.Existence.{line_or_none_proof}
use Rattle.command_words.proofs.laws.line_or_none.Goals as goal

pub returns : goal.returns
returns c = line_or_none_proof

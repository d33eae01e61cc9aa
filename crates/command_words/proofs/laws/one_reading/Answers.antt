use Rattle.command_words.proofs.Uniqueness.{one_reading_proof}
use Rattle.command_words.proofs.laws.one_reading.Goals as goal

pub returns : goal.returns
returns c = one_reading_proof

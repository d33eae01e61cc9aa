use Rattle.demo.proofs.PowerLemmas.{draws_powers}
use Rattle.demo.proofs.laws.draws_are_powers.Goals as goal

pub returns : goal.returns
returns c = draws_powers

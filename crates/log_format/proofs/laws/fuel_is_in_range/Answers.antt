use Rattle.log_format.proofs.Fuels.{fuel_is_in_range as law}
use Rattle.log_format.proofs.laws.fuel_is_in_range.Goals as goal

pub returns : goal.returns
returns c = law

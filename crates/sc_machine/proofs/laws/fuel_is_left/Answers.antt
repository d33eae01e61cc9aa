use Rattle.sc_machine.proofs.Standing.{moved-has_fuel, settled-has_fuel, answered-has_fuel}
use Rattle.sc_machine.proofs.laws.fuel_is_left.Goals as goal

pub returns-clause-moved : goal.returns-clause-moved
returns-clause-moved c = moved-has_fuel

pub returns-clause-settled : goal.returns-clause-settled
returns-clause-settled c = settled-has_fuel

pub returns-clause-answered : goal.returns-clause-answered
returns-clause-answered c = answered-has_fuel

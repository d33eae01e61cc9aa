use Rattle.sc_machine.proofs.AtStop.{can-standing, turn-standing}
use Rattle.sc_machine.proofs.laws.turn_by_stop.Goals as goal

pub returns : goal.returns
returns c = λ p fuel t stop m there stands. (can-standing p t stop m there stands, turn-standing p fuel t stop m there stands)

use Rattle.std.proofs.Common.{◌-◌}
use Rattle.sc_machine.specs.ThreadStep.{settled}
use Rattle.sc_machine.proofs.Single.{local_steps-made-le}
use Rattle.sc_machine.proofs.laws.settled_makes_no_less.Goals as goal

pub returns : goal.returns
unfolding settled
returns c = λ p fuel t s. local_steps-made-le p fuel t (fuel - s.made) s

use Rattle.std.proofs.Common.{rules}
use Rattle.demo.specs.Demo.{turns}
use Rattle.demo.proofs.sizes.turns.Goals as goal

pub returns-clause-is : goal.returns-clause-is
unfolding turns
returns-clause-is c = search rules

use Rattle.std.proofs.Common.{rules}
use Rattle.demo.specs.Demo.{rounds_of}
use Rattle.demo.proofs.sizes.rounds_of.Goals as goal

pub returns-clause-is : goal.returns-clause-is
unfolding rounds_of
returns-clause-is c = search rules

use Rattle.std.proofs.Common.{rules}
use Rattle.demo.specs.Demo.{amount_of}
use Rattle.demo.proofs.sizes.amount_of.Goals as goal

pub returns : goal.returns
unfolding amount_of
returns c = search rules

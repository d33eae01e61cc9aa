use Rattle.std.proofs.Common.{rules}
use Rattle.demo.specs.Demo.{thread_count}
use Rattle.demo.proofs.sizes.thread_count.Goals as goal

pub returns-clause-is : goal.returns-clause-is
unfolding thread_count
returns-clause-is c = search rules

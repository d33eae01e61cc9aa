-- The code is that of the definition, instruction by instruction.
use Rattle.std.proofs.Common.{rules}
use Rattle.demo.specs.Program.{worker}
use Rattle.demo.proofs.programs.worker.Goals as goal

pub returns : goal.returns
unfolding worker
returns c = search rules

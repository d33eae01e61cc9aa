use Rattle.std.proofs.Common.{arith, map}
use Rattle.stride_isa.proofs.KeptLemmas.{op_within}
use Rattle.stride_isa.proofs.program.Program.op.Goals as goal

pub returns-clause-small : goal.returns-clause-small
returns-clause-small c =
    let inside = rw (← c.self.view_is) at c.requires.inside in
    omega (arith, inside, op_within (map (λ code. code.items) c.self.inside.threads.items) c.args.thread, c.self.invariant.formed.limits.instructions)

use Rattle.std.proofs.Common.{arith}
use Rattle.stride_isa.proofs.KeptLemmas.{kept_op, length_last}
use Rattle.stride_isa.proofs.program.Program.add_op.Goals as goal

pub invariant_of-self-2 : goal.invariant_of-self-2
invariant_of-self-2 c =
    rw c.in_ok-push_to_last.ensures.added
    (kept_op _ c.self.inside.firsts.items c.self.inside.cells c.self.inside.instructions c.args.op c.self.invariant (rw (← c.self.view_is) at c.requires) c.op_facts.ensures (omega arith))

pub returns-clause-threads : goal.returns-clause-threads
returns-clause-threads c = rw (c.in_ok-push_to_last.ensures.added, ← c.self.view_is) (length_last _ c.args.op)

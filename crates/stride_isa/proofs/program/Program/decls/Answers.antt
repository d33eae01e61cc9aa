use Rattle.std.proofs.Common.{arith}
use Rattle.stride_isa.proofs.KeptLemmas.{length_le_cells}
use Rattle.stride_isa.proofs.program.Program.decls.Goals as goal

pub overflow_cast-result : goal.overflow_cast-result
overflow_cast-result c =
    omega (arith, length_le_cells c.self.inside.decls.items c.self.invariant.formed.decls, c.self.invariant.formed.limits.cells)

pub returns-clause-small : goal.returns-clause-small
returns-clause-small c =
    omega (arith, length_le_cells c.self.inside.decls.items c.self.invariant.formed.decls, c.self.invariant.formed.limits.cells)

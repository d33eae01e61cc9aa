use Rattle.std.proofs.Common.{arith}
use Rattle.std.proofs.lemmas.List.{length-map}
use Rattle.stride_isa.proofs.KeptLemmas.{code_within}
use Rattle.stride_isa.proofs.program.Program.code_len.Goals as goal

pub overflow_cast-result : goal.overflow_cast-result
overflow_cast-result c =
    let there = simp length-map at (rw (← c.self.view_is) at c.requires) in
    let within = code_within (λ code. code.items) c.self.inside.threads.items c.args.thread c.index.result.now there c.index.ensures in
    omega (arith, within, c.self.invariant.formed.limits.instructions)

pub returns-clause-small : goal.returns-clause-small
returns-clause-small c =
    let there = simp length-map at (rw (← c.self.view_is) at c.requires) in
    let within = code_within (λ code. code.items) c.self.inside.threads.items c.args.thread c.index.result.now there c.index.ensures in
    omega (arith, within, c.self.invariant.formed.limits.instructions)

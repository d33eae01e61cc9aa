use Rattle.stride_isa.proofs.KeptLemmas.{kept_empty}
use Rattle.stride_isa.proofs.program.Program.new.Goals as goal

pub invariant_of-result : goal.invariant_of-result
invariant_of-result c =
    rw (c.new.ensures.items, c.new-2.ensures.items, c.new-3.ensures.items, c.new-4.ensures.items) kept_empty

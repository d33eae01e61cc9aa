use Rattle.stride_isa.proofs.FaultLemmas.{one_first}
use Rattle.stride_isa.proofs.laws.one_first_fault.Goals as goal

pub returns : goal.returns
returns c = one_first

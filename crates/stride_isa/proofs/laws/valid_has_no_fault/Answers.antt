use Rattle.stride_isa.proofs.FaultLemmas.{valid_faultless_both}
use Rattle.stride_isa.proofs.laws.valid_has_no_fault.Goals as goal

pub returns : goal.returns
returns c = valid_faultless_both

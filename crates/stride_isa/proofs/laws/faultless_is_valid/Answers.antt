use Rattle.stride_isa.proofs.VerdictLemmas.{faultless_valid}
use Rattle.stride_isa.proofs.laws.faultless_is_valid.Goals as goal

pub returns : goal.returns
returns c = faultless_valid

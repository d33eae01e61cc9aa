use Rattle.stride_isa.proofs.VerdictLemmas.{has_verdict}
use Rattle.stride_isa.proofs.laws.some_verdict.Goals as goal

pub returns : goal.returns
returns c = has_verdict

use Rattle.stride_isa.proofs.FaultLemmas.{one_answer}
use Rattle.stride_isa.proofs.laws.one_verdict.Goals as goal

pub returns : goal.returns
returns c = one_answer

use Rattle.stride_isa.proofs.StrayingLemmas.{valid_faultless}
use Rattle.stride_isa.proofs.checking.check.Goals as goal

pub invariant_of-result : goal.invariant_of-result
invariant_of-result c = valid_faultless c.args.program c.in_ok-check_names.ensures.named c.in_ok-check_depths.ensures.faultless

pub returns-clause-valid : goal.returns-clause-valid
returns-clause-valid c = valid_faultless c.args.program c.in_ok-check_names.ensures.named c.in_ok-check_depths.ensures.faultless

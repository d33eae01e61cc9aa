use Rattle.std.proofs.Common.{arith}
use Rattle.stride_isa.proofs.StrayingLemmas.{runs_off_at_once}
use Rattle.stride_isa.proofs.straying.first_straying.Goals as goal

pub returns-then-code_len-eq0 : goal.returns-then-code_len-eq0
returns-then-code_len-eq0 c = runs_off_at_once c.args.program.now c.args.thread c.requires.thread (omega arith)

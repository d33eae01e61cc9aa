use Rattle.std.proofs.Common.{arith}
use Rattle.log_format.proofs.BundleLaws.{answer_is_spelled}
use Rattle.log_format.proofs.decoding.decode.Goals as goal

pub returns-clause-spelled : goal.returns-clause-spelled
returns-clause-spelled c = answer_is_spelled c.args.bytes.now c.answer.result (λ i. omega (arith, c.type_inv.bytes i)) c.answer.ensures

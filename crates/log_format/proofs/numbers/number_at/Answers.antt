use Rattle.std.proofs.Common.{arith}
use Rattle.log_format.proofs.Wide.{wide_fits}
use Rattle.log_format.proofs.numbers.number_at.Goals as goal

pub returns-in-One-clause-fits : goal.returns-in-One-clause-fits
returns-in-One-clause-fits c = wide_fits c.args.size c.args.bytes.now _ c.wide_at.result (λ i. omega (arith, c.type_inv.bytes i)) c.wide_at.ensures

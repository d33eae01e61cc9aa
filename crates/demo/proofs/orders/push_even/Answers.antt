use Rattle.std.proofs.Common.{arith}
use Rattle.demo.proofs.ListLemmas.{one_more}
use Rattle.demo.proofs.orders.push_even.Goals as goal

pub loop-preserved : goal.loop-preserved
loop-preserved c = record { items = grind (arith, one_more); spare = omega arith }

use Rattle.std.proofs.Common.{arith}
use Rattle.demo.proofs.ListLemmas.{one_more}
use Rattle.demo.proofs.orders.push_each.Goals as goal

pub loop-thread-preserved : goal.loop-thread-preserved
loop-thread-preserved c = record { items = grind (arith, one_more); spare = omega arith }

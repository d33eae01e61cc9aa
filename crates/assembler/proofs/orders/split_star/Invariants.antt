use Rattle.std.proofs.Common.{◌≡◌}
use Rattle.assembler.specs.Orders.{halves}
use Rattle.assembler.proofs.OrderLemmas.{halves_from}
use Rattle.assembler.proofs.orders.split_star.Given as goal

abbrev pub invariant-loop-i : goal.invariant-loop-i
invariant-loop-i l = halves_from l.word l.i ≡ halves l.word

use Rattle.linkage.specs.Numbers.{AreApartBelow}
use Rattle.linkage.proofs.numbered.first_twice.Given as goal

-- no neighbours so far are alike
abbrev pub invariant-loop-i : goal.invariant-loop-i
invariant-loop-i g l = AreApartBelow l.items l.i

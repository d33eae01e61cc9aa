use Rattle.std.proofs.Common.{arith}
use Rattle.linkage.proofs.laws.one_link.Goals as goal

pub returns : goal.returns
returns c = λ traces cell value bound one other a b.
    omega (arith, a.greatest other b.within b.equal, b.greatest one a.within a.equal)

use Rattle.linkage.specs.AllOf.{AreStartingWrites}
use Rattle.linkage.proofs.gathered.starting_writes.Given as goal

abbrev pub invariant-loop-cell : goal.invariant-loop-cell
invariant-loop-cell l = AreStartingWrites l.traces l.cell l.writes.items

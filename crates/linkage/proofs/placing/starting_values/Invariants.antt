use Rattle.linkage.specs.AllOf.{StartsGiven, WriteGiven}
use Rattle.linkage.specs.Placing.{IsPlaced}
use Rattle.linkage.proofs.placing.starting_values.Given as goal

abbrev pub invariant-loop-cell : goal.invariant-loop-cell
invariant-loop-cell l = IsPlaced (StartsGiven (WriteGiven l.traces) l.cell) l.spans l.placing

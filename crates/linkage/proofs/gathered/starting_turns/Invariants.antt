use Rattle.linkage.specs.AllOf.{AreStartingTurns}
use Rattle.linkage.proofs.gathered.starting_turns.Given as goal

abbrev pub invariant-loop-monitor : goal.invariant-loop-monitor
invariant-loop-monitor l = AreStartingTurns l.monitor l.turns.items

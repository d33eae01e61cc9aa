use Rattle.linkage.specs.AllOf.{StartsGiven, TurnZero}
use Rattle.linkage.specs.Spans.{AreMarks}
use Rattle.linkage.proofs.turn_marks.starting_marks.Given as goal

abbrev pub invariant-loop-monitor : goal.invariant-loop-monitor
invariant-loop-monitor l = record {
  entered : AreMarks (StartsGiven TurnZero l.monitor) l.spans l.entered.items;
  left : AreMarks (StartsGiven TurnZero l.monitor) l.spans l.left.items;
}

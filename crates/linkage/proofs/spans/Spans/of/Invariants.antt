use Rattle.std.proofs.Common.{◌≡◌, ◌*◌, ◌≤◌}
use Rattle.linkage.specs.Spans.{AreFirsts, places_before}
use Rattle.linkage.proofs.spans.Spans.of.Given as goal

abbrev pub invariant-loop-top : goal.invariant-loop-top
invariant-loop-top l = record {
  firsts : AreFirsts l.fn.greatest.items l.firsts.items l.top-index;
  places : l.places ≡ places_before l.fn.greatest.items l.top-index;
  small : l.places ≤ 4294967296 * l.top-index;
}

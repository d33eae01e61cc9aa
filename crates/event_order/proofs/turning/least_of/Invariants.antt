use Rattle.std.proofs.Common.{◌<◌, length}
use Rattle.event_order.specs.Backs.{IsLeastAt}
use Rattle.event_order.proofs.turning.least_of.Given as goal

abbrev pub invariant-loop-i : goal.invariant-loop-i
invariant-loop-i l = record {
  least : IsLeastAt l.ring l.i l.least;
  there : l.least < length l.ring;
}

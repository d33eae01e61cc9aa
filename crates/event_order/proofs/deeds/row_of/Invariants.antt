use Rattle.std.proofs.Common.{◌+◌, ◌*◌, ◌≤◌}
use Rattle.event_order.specs.Deeds.{IsRowOf}
use Rattle.event_order.proofs.deeds.row_of.Given as goal

abbrev pub invariant-loop-place : goal.invariant-loop-place
invariant-loop-place g l = record {
  row : IsRowOf l.traces l.links l.thread l.place l.row.items;
  looks : l.steps ≤ l.initial.steps + 2 * l.place;
}

use Rattle.std.proofs.Common.{◌≤◌, ◌+◌, ◌*◌}
use Rattle.linkage.specs.Finding.{IsFinder, look_up_looks}
use Rattle.linkage.specs.GatherShows.{place_at}
use Rattle.linkage.specs.Misfitting.{IsProgress, IsRowUpTo}
use Rattle.linkage.specs.Rounds.{IsReached, first_events}
use Rattle.linkage.proofs.linking.link_part.Given as goal

abbrev pub invariant-loop-place : goal.invariant-loop-place
invariant-loop-place g l = record {
  started : first_events l.traces l.from l.thread ≤ l.place;
  finder : IsFinder l.traces l.finder;
  progress : IsProgress l.traces (IsReached l.from l.to (place_at l.thread l.place)) l.misfits;
  row : IsRowUpTo l.traces l.thread l.place l.row.items;
  looks : l.steps + (look_up_looks + 1) * first_events l.traces l.from l.thread ≤ l.initial.steps + (look_up_looks + 1) * l.place;
}

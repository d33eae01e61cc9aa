use Rattle.std.proofs.Common.{◌≡◌, ◌+◌}
use Rattle.linkage.specs.GatherShows.{place_at}
use Rattle.linkage.specs.Placing.{AreTopsBefore}
use Rattle.linkage.proofs.tops.raise_by_thread.Given as goal

abbrev pub invariant-loop-place : goal.invariant-loop-place
invariant-loop-place g l = record {
  tops : AreTopsBefore l.traces (place_at l.thread l.place) l.tops;
  looks : l.steps ≡ l.initial.steps + l.place;
}

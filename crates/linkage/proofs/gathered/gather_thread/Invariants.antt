use Rattle.std.proofs.Common.{◌≡◌, ◌+◌}
use Rattle.linkage.specs.GatherShows.{IsGathered, place_at}
use Rattle.linkage.proofs.gathered.gather_thread.Given as goal

abbrev pub invariant-loop-place : goal.invariant-loop-place
invariant-loop-place g l = record {
  gathered : IsGathered l.traces (place_at l.thread l.place) l.gathered;
  looks : l.steps ≡ l.initial.steps + l.place;
}

use Rattle.std.proofs.Common.{◌≤◌, ◌+◌, length, take}
use Rattle.std.specs.List.{sum_by}
use Rattle.linkage.specs.GatherShows.{IsGathered, place_at}
use Rattle.linkage.proofs.gathered.gather.Given as goal

abbrev pub invariant-loop-thread : goal.invariant-loop-thread
invariant-loop-thread g l = record {
  gathered : IsGathered l.traces (place_at l.thread 0) l.gathered;
  looks : l.steps ≤ l.initial.steps + sum_by length (take l.thread l.traces.events);
}

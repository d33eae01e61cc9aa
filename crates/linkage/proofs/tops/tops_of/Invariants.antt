use Rattle.std.proofs.Common.{◌≡◌, ◌+◌, length, take}
use Rattle.std.specs.List.{sum_by}
use Rattle.linkage.specs.GatherShows.{place_at}
use Rattle.linkage.specs.Placing.{AreTopsBefore}
use Rattle.linkage.proofs.tops.tops_of.Given as goal

abbrev pub invariant-loop-thread : goal.invariant-loop-thread
invariant-loop-thread g l = record {
  tops : AreTopsBefore l.traces (place_at l.thread 0) l.tops;
  looks : l.steps ≡ l.initial.steps + sum_by length (take l.thread l.traces.events);
}

use Rattle.std.proofs.Common.{◌+◌, ◌≤◌}
use Rattle.linkage.specs.AllOf.{WriteGiven}
use Rattle.linkage.specs.GatherShows.{place_at}
use Rattle.linkage.specs.Placing.{IsPlaced}
use Rattle.linkage.specs.Rounds.{Reached, gone_through, sum_first}
use Rattle.linkage.proofs.placing.place_round.Given as goal

abbrev pub invariant-loop-thread : goal.invariant-loop-thread
invariant-loop-thread g l = record {
  placed : IsPlaced (Reached l.from l.to (place_at l.thread 0) (WriteGiven l.traces)) l.spans l.placing;
  looks : l.steps + sum_first l.from l.traces.events ≤ l.initial.steps + gone_through l.traces l.from l.to l.thread;
}

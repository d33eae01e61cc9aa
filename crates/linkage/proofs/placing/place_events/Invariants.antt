use Rattle.std.proofs.Common.{ℕ, ◌+◌, ◌-◌, ◌≤◌}
use Rattle.linkage.specs.AllOf.{WriteGiven}
use Rattle.linkage.specs.GatherShows.{place_at}
use Rattle.linkage.specs.Placing.{IsPlaced}
use Rattle.linkage.specs.Rounds.{Reached, sum_first}
use Rattle.linkage.proofs.placing.place_events.Given as goal

abbrev pub invariant-loop-from : goal.invariant-loop-from
invariant-loop-from g l = record {
  placed : (to : ℕ) → IsPlaced (Reached l.from to (place_at 0 0) (WriteGiven l.traces)) l.spans l.placing;
  looks : l.steps ≤ l.initial.steps + sum_first l.from l.traces.events;
}

abbrev pub decreases-loop-from : goal.decreases-loop-from
decreases-loop-from g l = l.longest - l.from

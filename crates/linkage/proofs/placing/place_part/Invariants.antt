use Rattle.std.proofs.Common.{◌≡◌, ◌+◌, ◌≤◌}
use Rattle.linkage.specs.AllOf.{WriteGiven}
use Rattle.linkage.specs.GatherShows.{place_at}
use Rattle.linkage.specs.Placing.{IsPlaced}
use Rattle.linkage.specs.Rounds.{Reached, first_events}
use Rattle.linkage.proofs.placing.place_part.Given as goal

abbrev pub invariant-loop-place : goal.invariant-loop-place
invariant-loop-place g l = record {
  begun : first_events l.traces l.from l.thread ≤ l.place;
  inside : l.place ≤ first_events l.traces l.to l.thread;
  placed : IsPlaced (Reached l.from l.to (place_at l.thread l.place) (WriteGiven l.traces)) l.spans l.placing;
  looks : l.steps + first_events l.traces l.from l.thread ≡ l.initial.steps + l.place;
}

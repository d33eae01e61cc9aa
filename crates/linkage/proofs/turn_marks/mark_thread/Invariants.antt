use Rattle.std.proofs.Common.{◌≡◌, ◌+◌}
use Rattle.linkage.specs.GatherShows.{place_at}
use Rattle.linkage.specs.Turns.{AreTurnsMarked}
use Rattle.linkage.proofs.turn_marks.mark_thread.Given as goal

abbrev pub invariant-loop-place : goal.invariant-loop-place
invariant-loop-place g l = record {
  marked : AreTurnsMarked l.traces (place_at l.thread l.place) l.spans l.marks;
  looks : l.steps ≡ l.initial.steps + l.place;
}

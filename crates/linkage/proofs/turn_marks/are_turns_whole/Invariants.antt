use Rattle.std.proofs.Common.{◌≤◌, ◌+◌, length, take}
use Rattle.std.specs.List.{sum_by}
use Rattle.linkage.specs.GatherShows.{place_at}
use Rattle.linkage.specs.Turns.{AreTurnsMarked}
use Rattle.linkage.proofs.turn_marks.are_turns_whole.Given as goal

abbrev pub invariant-loop-thread : goal.invariant-loop-thread
invariant-loop-thread g l = record {
  marked : AreTurnsMarked l.traces (place_at l.thread 0) l.spans l.marks;
  looks : l.steps ≤ l.initial.steps + sum_by length (take l.thread l.traces.events);
}

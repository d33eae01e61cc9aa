use Rattle.std.proofs.Common.{◌≤◌, ◌-◌, length}
use Rattle.linkage.specs.Looking.{IsSplit, IsHalved}
use Rattle.linkage.proofs.latest_write.latest.Given as goal

-- the list is split at what is left, which the looks so far have halved
abbrev pub invariant-loop-low : goal.invariant-loop-low
invariant-loop-low g l = record {
  split : IsSplit l.index l.low l.high l.cell l.value l.bound l.found;
  counted : l.initial.steps ≤ l.steps;
  halved : IsHalved (length l.index) (l.high - l.low) (l.steps - l.initial.steps);
}

abbrev pub decreases-loop-low : goal.decreases-loop-low
decreases-loop-low g l = l.high - l.low

use Rattle.std.proofs.Common.{◌-◌, ◌<◌, ◌≤◌, length}
use Rattle.replayer.specs.Schedules.{IsRow}
use Rattle.replayer.proofs.playing.row_end.Given as goal

-- the members so far name the same thread
abbrev pub invariant-loop-end : goal.invariant-loop-end
invariant-loop-end l = record { after : l.place < l.end; within : l.end ≤ length l.schedule; row : IsRow l.schedule l.place l.end }

abbrev pub decreases-loop-end : goal.decreases-loop-end
decreases-loop-end l = length l.schedule - l.end

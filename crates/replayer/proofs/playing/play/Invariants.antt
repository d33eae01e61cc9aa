use Rattle.std.proofs.Common.{◌-◌, length, take}
use Rattle.replayer.specs.Schedules.{PlayedTo}
use Rattle.replayer.proofs.playing.play.Given as goal

-- the members so far were played
abbrev pub invariant-loop-place : goal.invariant-loop-place
invariant-loop-place l = PlayedTo l.fn.table l.table (take l.place l.schedule)

abbrev pub decreases-loop-place : goal.decreases-loop-place
decreases-loop-place l = length l.schedule - l.place

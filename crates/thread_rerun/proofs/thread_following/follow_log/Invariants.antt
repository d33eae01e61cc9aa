use Rattle.std.proofs.Common.{◌-◌}
use Rattle.thread_rerun.specs.Shows.{Going}
use Rattle.thread_rerun.proofs.thread_following.follow_log.Given as goal

abbrev pub invariant-loop-event : goal.invariant-loop-event
invariant-loop-event l = Going l.initial.follower l.follower l.log l.thread l.initial.traces l.traces

abbrev pub decreases-loop-event : goal.decreases-loop-event
decreases-loop-event l = l.follower.thread.fuel - l.follower.thread.state.made

use Rattle.std.proofs.Common.{◌≡◌, map, take}
use Rattle.stride_base.specs.Listed.{Listed}
use Rattle.interleavings.specs.declared.activity.Activity.{Activity}
use Rattle.interleavings.specs.declared.event.LogEntry.{LogEntry}
use Rattle.interleavings.specs.Events.{log_of}
use Rattle.interleavings.proofs.results.logs_of.Given as goal

-- the logs so far
abbrev pub invariant-loop-activity : goal.invariant-loop-activity
invariant-loop-activity l = map (λ (entries : Listed LogEntry). entries.items) l.logs.items ≡ map (λ (activity : Activity). log_of activity.events) (take l.activity-index l.people)

use Rattle.std.proofs.Common.{◌≡◌, ◌++◌}
use Rattle.interleavings.specs.Events.{log_of}
use Rattle.interleavings.proofs.results.log_of.Given as goal

-- the entries so far, and those of the events that are left
abbrev pub invariant-loop-event : goal.invariant-loop-event
invariant-loop-event l = log_of l.events ≡ l.entries.items ++ log_of l.event-iterator

use Rattle.std.proofs.Common.{◌≡◌, ◌*◌, ◌≤◌, length, take}
use Rattle.std.specs.List.{sum_by}
use Rattle.stride_isa.specs.Limits.{fuel_limit}
use Rattle.linkage.proofs.placing.count_events.Given as goal

abbrev pub invariant-loop-thread : goal.invariant-loop-thread
invariant-loop-thread l = record {
  count : l.count ≡ sum_by length (take l.thread l.traces.events);
  small : l.count ≤ fuel_limit * l.thread;
}

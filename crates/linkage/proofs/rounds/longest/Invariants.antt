use Rattle.std.proofs.Common.{ℕ, length, ◌<◌, ◌≤◌}
use Rattle.stride_isa.specs.Limits.{fuel_limit}
use Rattle.interleavings.specs.TraceLists.{events_of}
use Rattle.linkage.proofs.rounds.longest.Given as goal

abbrev pub invariant-loop-thread : goal.invariant-loop-thread
invariant-loop-thread l = record {
  longest : (thread : ℕ) → thread < l.thread → length (events_of l.traces thread) ≤ l.longest;
  small : l.longest ≤ fuel_limit;
}

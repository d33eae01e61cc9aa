use Rattle.std.proofs.Common.{◌≡◌, ◌*◌, ◌≤◌}
use Rattle.std.specs.List.{range_with_len, sum_by}
use Rattle.demo.specs.Demo.{rounds_of}
use Rattle.demo.proofs.sizes.total_rounds.Given as goal

abbrev pub invariant-loop-thread : goal.invariant-loop-thread
invariant-loop-thread l = record { few : l.total ≤ 500 * l.thread; is : l.total ≡ sum_by (rounds_of l.number) (range_with_len 0 l.thread) }

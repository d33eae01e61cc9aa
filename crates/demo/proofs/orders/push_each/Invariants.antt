use Rattle.std.proofs.Common.{◌≡◌, ◌+◌, ◌++◌}
use Rattle.std.specs.List.{range_with_len}
use Rattle.demo.proofs.orders.push_each.Given as goal

abbrev pub invariant-loop-thread : goal.invariant-loop-thread
invariant-loop-thread l = record { items : l.order.items ≡ l.initial.order.items ++ range_with_len 0 l.thread; spare : l.order.spare + l.thread ≡ l.initial.order.spare }

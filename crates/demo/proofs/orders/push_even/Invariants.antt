use Rattle.std.proofs.Common.{◌≡◌, ◌+◌, ◌*◌, ◌++◌, replicate}
use Rattle.std.specs.List.{concat, range_with_len}
use Rattle.demo.proofs.orders.push_even.Given as goal

abbrev pub invariant-loop : goal.invariant-loop
invariant-loop l = record {
  items : l.order.items ≡ l.initial.order.items ++ concat (replicate l.counter (range_with_len 0 l.threads));
  spare : l.order.spare + l.counter * l.threads ≡ l.initial.order.spare;
}

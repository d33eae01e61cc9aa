use Rattle.std.proofs.Common.{◌≡◌, ◌+◌, ◌≤◌, ◌++◌, replicate}
use Rattle.assembler.proofs.orders.push_run.Given as goal

-- the members pushed so far stand at the end, and there is room for the others
abbrev pub invariant-loop : goal.invariant-loop
invariant-loop l = record {
  pushed : l.order.items ≡ l.fn.order.items ++ replicate l.counter l.run.thread;
  room : l.run.times ≤ l.order.spare + l.counter;
}

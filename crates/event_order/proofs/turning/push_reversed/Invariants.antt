use Rattle.std.proofs.Common.{◌≡◌, ◌++◌, map}
use Rattle.event_order.proofs.turning.push_reversed.Given as goal

abbrev pub invariant-loop-place : goal.invariant-loop-place
invariant-loop-place l = l.list.items ≡ l.initial.list.items ++ map (λ r. r.now) l.yielded

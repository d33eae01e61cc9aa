use Rattle.std.proofs.Common.{◌≡◌, [], map, replicate}
use Rattle.linkage.proofs.linking.room_of.Given as goal

abbrev pub invariant-loop-thread : goal.invariant-loop-thread
invariant-loop-thread l = map (λ row. row.items) l.rows.items ≡ replicate l.thread []

use Rattle.std.proofs.Common.{◌≡◌, ◌≤◌, ◌-◌, length, vec_len}
use Rattle.stride_base.proofs.SourceLemmas.{ReadSoFar}
use Rattle.stride_base.proofs.reading.read_all.Given as goal

-- The source so far, the limit, and the buffer's length.
abbrev pub invariant-loop-list : goal.invariant-loop-list
invariant-loop-list g l =
    ReadSoFar (g.S.Source.left l.initial.source) (g.S.Source.left l.source) l.list.items (g.S.Source.faults l.initial.source) (g.S.Source.faults l.source)
    × (length l.list.items ≤ l.limit) × (vec_len l.buffer ≡ 65536)

abbrev pub decreases-loop-list : goal.decreases-loop-list
decreases-loop-list g l = l.limit - length l.list.items

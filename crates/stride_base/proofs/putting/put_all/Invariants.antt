use Rattle.std.proofs.Common.{◌≡◌, [], length}
use Rattle.stride_base.proofs.SinkLemmas.{PutSoFar}
use Rattle.stride_base.proofs.putting.put_all.Given as goal

-- The sink so far, and that an empty piece leaves it untouched.
abbrev pub invariant-loop-rest : goal.invariant-loop-rest
invariant-loop-rest g l =
    PutSoFar (g.K.Sink.held l.initial.sink) (g.K.Sink.held l.sink) l.piece l.rest (g.K.Sink.faults l.initial.sink) (g.K.Sink.faults l.sink)
    × (l.piece ≡ [] → l.sink ≡ l.initial.sink)

abbrev pub decreases-loop-rest : goal.decreases-loop-rest
decreases-loop-rest g l = length l.rest

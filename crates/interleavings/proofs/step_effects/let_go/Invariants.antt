use Rattle.std.proofs.Common.{◌≡◌, ◌==◌, ◌++◌, not, filter, take, drop}
use Rattle.interleavings.specs.declared.activity.HeldTurn.{HeldTurn}
use Rattle.interleavings.proofs.step_effects.let_go.Given as goal

-- the entries that were looked at stand last, without those of the monitor
abbrev pub invariant-loop-turn : goal.invariant-loop-turn
invariant-loop-turn l = l.held ≡ drop l._turn l.fn.held ++ filter (λ (h : HeldTurn). not (h.mon == l.mon)) (take l._turn l.fn.held)

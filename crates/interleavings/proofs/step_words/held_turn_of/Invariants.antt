use Rattle.std.proofs.Common.{◌≡◌}
use Rattle.interleavings.specs.AtomicStep.{held_turn, turn_or_zero}
use Rattle.interleavings.proofs.step_words.held_turn_of.Given as goal

-- the turn is that of the entries that are left
abbrev pub invariant-loop-turn : goal.invariant-loop-turn
invariant-loop-turn l = turn_or_zero (held_turn l.mon l.held) ≡ turn_or_zero (held_turn l.mon l.turn-iterator)

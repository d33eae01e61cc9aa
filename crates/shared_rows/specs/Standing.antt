-- What is known of a pass by what its calls have answered.
use Rattle.std.specs.Prelude.{ℕ, ◌==◌, Bool, true, false, List, Option, Some, None}
use Rattle.interleavings.specs.declared.activity.HeldTurn.{HeldTurn}
use Rattle.interleavings.specs.AtomicStep.{held_turn}

-- whether a name was drawn
abbrev pub has_name : Option ℕ → Bool
has_name (Some name) = true
has_name None = false

-- whether a turn is this one
abbrev pub is_turn : Option ℕ → ℕ → Bool
is_turn (Some turn) expected = turn == expected
is_turn None expected = false

-- whether the turn that was entered last, and not left, is among those held
abbrev pub is_held : Option HeldTurn → List HeldTurn → Bool
is_held (Some h) held = is_turn (held_turn h.mon held) h.turn
is_held None held = true

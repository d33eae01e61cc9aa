-- The next step of a thread that stands at a shared instruction, which always has one.
use Rattle.std.proofs.Common.{◌≡◌, ℕ, Some, refl}
use Rattle.sc_machine.specs.declared.stop.Stop.{Stop}
use Rattle.sc_machine.specs.declared.stop.Stop.TheVariants as stops
use Rattle.sc_machine.specs.ThreadRun.{IsShared}
use Rattle.interleavings.specs.declared.activity.Phase.{Phase}
use Rattle.interleavings.specs.declared.kind.Kind.{Kind}
use Rattle.interleavings.specs.declared.kind.Kind.TheVariants as by
use Rattle.interleavings.specs.History.{Step}
use Rattle.interleavings.specs.Driving.{read_kind, write_kind, update_kind, enter_kind, at_of, value_of, next_step}

-- the kind of the next step at a shared instruction; an end has none, and any does
abbrev pub kind_at : Stop → Phase → Kind
kind_at (stops.Read cell) phase = read_kind phase
kind_at (stops.Write cell value) phase = write_kind phase
kind_at (stops.Update cell change) phase = update_kind phase
kind_at (stops.Enter monitor) phase = enter_kind phase
kind_at (stops.Exit monitor) phase = by.Leave
kind_at (stops.Ended end) phase = by.Draw

-- the next step
abbrev pub step_at : ℕ → Stop → Phase → Step
step_at t stop phase = record { who = t; kind = kind_at stop phase; at = at_of stop; value = value_of stop phase }

-- it is the one that the definition chooses
pub chosen : (t : ℕ) (stop : Stop) (phase : Phase) → IsShared stop → next_step t stop phase ≡ Some (step_at t stop phase)
chosen t (stops.Read cell) phase shared = refl
chosen t (stops.Write cell value) phase shared = refl
chosen t (stops.Update cell change) phase shared = refl
chosen t (stops.Enter monitor) phase shared = refl
chosen t (stops.Exit monitor) phase shared = refl
chosen t (stops.Ended end) phase shared = absurd shared

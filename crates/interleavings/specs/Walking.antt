-- A thread that goes from event to event, whatever log it is given.
use Rattle.std.specs.Prelude.{◌≡◌, ℕ, ◌==◌, Bool, true, false, not, filter, List, [], ◌∷◌}
use Rattle.stride_isa.specs.Listing.{Listing}
use Rattle.sc_machine.specs.declared.stop.Stop.{Stop}
use Rattle.sc_machine.specs.declared.stop.Stop.TheVariants as stops
use Rattle.sc_machine.specs.ThreadStep.{Thread, stop_of}
use Rattle.interleavings.specs.declared.activity.HeldTurn.{HeldTurn}
use Rattle.interleavings.specs.declared.event.Event.{Event}
use Rattle.interleavings.specs.declared.event.Event.TheVariants as events
use Rattle.interleavings.specs.Events.{entry_of}
use Rattle.interleavings.specs.EventStep.{after_event}
use Rattle.interleavings.specs.Following.{Makes, met_of, turns_after}

-- whether a thread stands at an exit
abbrev pub is_exit : Stop → Bool
is_exit (stops.Read cell) = false
is_exit (stops.Write cell value) = false
is_exit (stops.Update cell change) = false
is_exit (stops.Enter monitor) = false
is_exit (stops.Exit monitor) = true
is_exit (stops.Ended end) = false

-- the event is one of the instruction at which the thread stands: what the instruction comes to by the event's own entry,
-- given of each monitor the turn of the thread's last entry into it
abbrev pub IsMet : Stop → (ℕ → ℕ) → Event → Type 0
IsMet stop turns event = met_of stop (entry_of event) turns ≡ Makes event

-- the thread goes from one state to another by these events
abbrev pub Walks : Listing → ℕ → ℕ → List Event → (ℕ → ℕ) → Thread → Thread → Type 0
Walks p fuel t [] turns s last = s ≡ last
Walks p fuel t (event ∷ es) turns s last = IsMet (stop_of p t s) turns event × Walks p fuel t es (turns_after event turns) (after_event p fuel t event s) last

-- of each monitor the turn of the last entry into it, after these events
abbrev pub turns_by : List Event → (ℕ → ℕ) → ℕ → ℕ
turns_by [] turns = turns
turns_by (event ∷ es) turns = turns_by es (turns_after event turns)

-- the turns held after an event: an entry adds its turn, and an exit takes away those of its monitor
abbrev pub held_by_event : Event → List HeldTurn → List HeldTurn
held_by_event (events.Read cell value bound) held = held
held_by_event (events.Write cell value number) held = held
held_by_event (events.Update cell old new number) held = held
held_by_event (events.Enter monitor turn) held = record { mon = monitor; turn = turn } ∷ held
held_by_event (events.Exit monitor turn) held = filter (λ h. not (h.mon == monitor)) held

-- the turns held after these events
abbrev pub held_by : List Event → List HeldTurn → List HeldTurn
held_by [] held = held
held_by (event ∷ es) held = held_by es (held_by_event event held)

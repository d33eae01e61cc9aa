-- Each exit of a thread that goes from event to event ends a turn that the thread began before.
use Rattle.std.proofs.Common.{◌≡◌, ℕ, zero, suc, ◌<◌, ◌==◌, ◌⊎◌, Bool, true, false, List, [], ◌∷◌, Option, Some, length, refl, sym, ◌∙◌, ap, subst, inl, inr, arith, eq-eqb}
use Rattle.std.proofs.lemmas.Bool.{true≢false, cases_eq, cases_lt, ne_eqb}
use Rattle.std.proofs.lemmas.List.{get_or-set_other, get_or-set_same, get_or_past, length-set}
use Rattle.std.specs.Prelude.{option_and_then, slice_get, slice_set, unwrap_or}
use Rattle.stride_isa.specs.Limits.{monitor_limit}
use Rattle.stride_isa.specs.Listing.{Listing, op_at}
use Rattle.stride_isa.specs.declared.op.Op.{Op}
use Rattle.sc_machine.specs.declared.stop.Stop.{Stop}
use Rattle.sc_machine.specs.declared.stop.Stop.TheVariants as stops
use Rattle.sc_machine.specs.ThreadStep.{Thread, start_thread, holds, settled, answered, stop_of}
use Rattle.interleavings.specs.declared.event.Event.{Event}
use Rattle.interleavings.specs.declared.event.Event.TheVariants as events
use Rattle.interleavings.specs.Events.{TurnOf, entered_by, left_by, word_given}
use Rattle.interleavings.specs.EventStep.{after_event}
use Rattle.interleavings.specs.Following.{no_turns, turns_after}
use Rattle.interleavings.specs.Laws.{EndsEnter, IsWalk}
use Rattle.interleavings.specs.Walking.{IsMet, Walks}
use Rattle.interleavings.proofs.HeldFlags.{FitsStop, HoldsAtExit, IsAnsweredAs, flags_after, none_held, settled-held, stands_answered}

-- a thread that makes an event stands at a shared instruction, which sets its flags as the stop says
pub flags_by_stop : (stop : Stop) (turns : ℕ → ℕ) (event : Event) (op : Op) (flags : List Bool) → IsMet stop turns event → IsAnsweredAs stop op flags → FitsStop stop op flags
flags_by_stop (stops.Read cell) turns event op flags met fits = fits
flags_by_stop (stops.Write cell value) turns event op flags met fits = fits
flags_by_stop (stops.Update cell change) turns event op flags met fits = fits
flags_by_stop (stops.Enter monitor) turns event op flags met fits = fits
flags_by_stop (stops.Exit monitor) turns event op flags met fits = fits
flags_by_stop (stops.Ended end) turns (events.Read cell value bound) op flags met fits = absurd cc
flags_by_stop (stops.Ended end) turns (events.Write cell value number) op flags met fits = absurd cc
flags_by_stop (stops.Ended end) turns (events.Update cell old new number) op flags met fits = absurd cc
flags_by_stop (stops.Ended end) turns (events.Enter monitor turn) op flags met fits = absurd cc
flags_by_stop (stops.Ended end) turns (events.Exit monitor turn) op flags met fits = absurd cc

-- a lowered flag is down
pub lowered : (flags : List Bool) (monitor : ℕ) → holds (slice_set flags monitor false) monitor ≡ false
lowered flags monitor = elim (cases_lt monitor (length flags)) [
  | inl h ↦ get_or-set_same flags monitor false false h
  | inr h ↦ get_or_past (slice_set flags monitor false) monitor false (rw length-set h)
]

-- a monitor that is held after an event has the turn that the event begins, or was held before with the same turn
abbrev HeldFrom : (ℕ → ℕ) → Event → List Bool → ℕ → Type 0
HeldFrom turns event flags monitor = (entered_by event ≡ Some (record { monitor = monitor; turn = turns_after event turns monitor })) ⊎ ((holds flags monitor ≡ true) × (turns_after event turns monitor ≡ turns monitor))

-- the same where the event begins a turn
held_from_enter : (turns : ℕ → ℕ) (flags : List Bool) (entered turn monitor : ℕ) → holds (slice_set flags entered true) monitor ≡ true → HeldFrom turns (events.Enter entered turn) flags monitor
held_from_enter turns flags entered turn monitor up = elim (cases_eq monitor entered) [
  | inl same ↦ inl (let test : (monitor == entered) ≡ true = eq-eqb monitor entered same in rw test (ap (λ m. Some (record { monitor = m; turn = turn })) (sym same)))
  | inr other ↦ inr (sym (get_or-set_other flags entered monitor true false other) ∙ up, let test : (monitor == entered) ≡ false = ne_eqb monitor entered other in rw test refl)
]

-- the same where it ends one
held_from_exit : (turns : ℕ → ℕ) (flags : List Bool) (left turn monitor : ℕ) → holds (slice_set flags left false) monitor ≡ true → HeldFrom turns (events.Exit left turn) flags monitor
held_from_exit turns flags left turn monitor up = elim (cases_eq monitor left) [
  | inl same ↦ absurd (true≢false (sym up ∙ (ap (holds (slice_set flags left false)) same ∙ lowered flags left)))
  | inr other ↦ inr (sym (get_or-set_other flags left monitor false false other) ∙ up, refl)
]

-- and of any event at the instruction where the thread stands
held_from : (stop : Stop) (turns : ℕ → ℕ) (flags : List Bool) (event : Event) → IsMet stop turns event → (monitor : ℕ) → holds (flags_after stop flags) monitor ≡ true → HeldFrom turns event flags monitor
held_from (stops.Read at) turns flags (events.Read cell value bound) met monitor up = inr (up, refl)
held_from (stops.Write at stored) turns flags (events.Write cell value number) met monitor up = inr (up, refl)
held_from (stops.Update at change) turns flags (events.Update cell old new number) met monitor up = inr (up, refl)
held_from (stops.Enter at) turns flags (events.Enter entered turn) met monitor up =
    let same : at ≡ entered = cc in held_from_enter turns flags entered turn monitor (subst (λ (m : ℕ). holds (slice_set flags m true) monitor ≡ true) same up)
held_from (stops.Exit at) turns flags (events.Exit left turn) met monitor up =
    let same : at ≡ left = cc in held_from_exit turns flags left turn monitor (subst (λ (m : ℕ). holds (slice_set flags m false) monitor ≡ true) same up)
held_from (stops.Ended end) turns flags (events.Read cell value bound) met monitor up = absurd cc
held_from (stops.Ended end) turns flags (events.Write cell value number) met monitor up = absurd cc
held_from (stops.Ended end) turns flags (events.Update cell old new number) met monitor up = absurd cc
held_from (stops.Ended end) turns flags (events.Enter entered turn) met monitor up = absurd cc
held_from (stops.Ended end) turns flags (events.Exit left turn) met monitor up = absurd cc
held_from stop turns flags event met monitor up = absurd cc

-- the turn that is there
abbrev turn_in : Option TurnOf → TurnOf
turn_in found = unwrap_or found (record { monitor = 0; turn = 0 })

-- turns that are the same agree in both parts
same_turn : (a b : TurnOf) → Some a ≡ Some b → (a.monitor ≡ b.monitor) × (a.turn ≡ b.turn)
same_turn a b e = (ap (λ (found : Option TurnOf). (turn_in found).monitor) e, ap (λ (found : Option TurnOf). (turn_in found).turn) e)

-- an exit ends the turn of a monitor that is held
exit_ends_held : (stop : Stop) (turns : ℕ → ℕ) (flags : List Bool) (left ended : ℕ) → IsMet stop turns (events.Exit left ended) → HoldsAtExit stop flags → (holds flags left ≡ true) × (ended ≡ turns left)
exit_ends_held (stops.Exit at) turns flags left ended met held =
    let same : at ≡ left = cc in
    let turn_is : turns at ≡ ended = cc in
    (subst (λ (m : ℕ). holds flags m ≡ true) same held, sym turn_is ∙ ap turns same)
exit_ends_held stop turns flags left ended met held = absurd cc

-- an event that ends a turn ends that of a monitor that is held
ends_held : (stop : Stop) (turns : ℕ → ℕ) (flags : List Bool) (event : Event) → IsMet stop turns event → HoldsAtExit stop flags → (monitor turn : ℕ) → left_by event ≡ Some (record { monitor = monitor; turn = turn }) → (holds flags monitor ≡ true) × (turn ≡ turns monitor)
ends_held stop turns flags (events.Exit left ended) met held monitor turn is =
    let same = same_turn (record { monitor = left; turn = ended }) (record { monitor = monitor; turn = turn }) is in
    let own = exit_ends_held stop turns flags left ended met held in
    (subst (λ (m : ℕ). holds flags m ≡ true) same.0 own.0, sym same.1 ∙ (own.1 ∙ ap turns same.0))
ends_held stop turns flags event met held monitor turn is = absurd cc

-- the flags of a thread after an event
pub flags-after_event : (p : Listing) (fuel t : ℕ) (turns : ℕ → ℕ) (event : Event) (s : Thread) → IsMet (stop_of p t s) turns event → (after_event p fuel t event s).held ≡ flags_after (stop_of p t s) s.held
flags-after_event p fuel t turns event s met =
    settled-held p fuel t (answered p fuel t (word_given event) s) ∙ (flags_by_stop (stop_of p t s) turns event (op_at p t s.pc) s.held met (stands_answered p t s)).flags_are

-- each exit ends a turn that is held at the beginning, or one that an earlier event begins
exit_source : (p : Listing) (fuel t : ℕ) (es : List Event) (turns : ℕ → ℕ) (s last : Thread) → Walks p fuel t es turns s last → (place monitor turn : ℕ) → option_and_then left_by (slice_get es place) ≡ Some (record { monitor = monitor; turn = turn }) → ((holds s.held monitor ≡ true) × (turn ≡ turns monitor)) ⊎ EndsEnter es place monitor turn
exit_source p fuel t [] turns s last walks place monitor turn is = absurd cc
exit_source p fuel t (event ∷ es) turns s last walks zero monitor turn is =
    inl (ends_held (stop_of p t s) turns s.held event walks.0 (flags_by_stop (stop_of p t s) turns event (op_at p t s.pc) s.held walks.0 (stands_answered p t s)).at_exit monitor turn is)
exit_source p fuel t (event ∷ es) turns s last walks (suc place) monitor turn is =
    elim (exit_source p fuel t es (turns_after event turns) (after_event p fuel t event s) last walks.1 place monitor turn is) [
      | inl now ↦ elim (held_from (stop_of p t s) turns s.held event walks.0 monitor (subst (λ (flags : List Bool). holds flags monitor ≡ true) (flags-after_event p fuel t turns event s walks.0) now.0)) [
        | inl entered ↦ inr (record { begun = 0; before = omega arith; entered = entered ∙ ap (λ n. Some (record { monitor = monitor; turn = n })) (sym now.1) })
        | inr before ↦ inl (before.0, now.1 ∙ before.1)
      ]
      | inr ends ↦ inr (record { begun = suc ends.begun; before = let h : ends.begun < place = ends.before in omega arith; entered = ends.entered })
    ]

-- a thread holds nothing at its start, so each exit ends a turn that an earlier event begins
pub exits-end : (p : Listing) (fuel t : ℕ) (es : List Event) (last : Thread) → IsWalk p fuel t es last → (place monitor turn : ℕ) → option_and_then left_by (slice_get es place) ≡ Some (record { monitor = monitor; turn = turn }) → EndsEnter es place monitor turn
exits-end p fuel t es last walk place monitor turn is =
    elim (exit_source p fuel t es no_turns (settled p fuel t start_thread) last walk.walks place monitor turn is) [
      | inl held ↦ absurd (true≢false (sym held.0 ∙ (ap (λ (flags : List Bool). holds flags monitor) (settled-held p fuel t start_thread) ∙ none_held monitor_limit monitor)))
      | inr ends ↦ ends
    ]

-- What is known of where a thread stands by the events by which it came there.
use Rattle.std.proofs.Common.{◌≡◌, ℕ, ◌==◌, Bool, true, false, cond, List, [], ◌∷◌, Some, sym, ◌∙◌, ap, subst, inl, inr, eq-eqb}
use Rattle.std.proofs.lemmas.Bool.{true≢false, cases_eq, ne_eqb}
use Rattle.std.proofs.lemmas.List.{get_or-set_other}
use Rattle.std.specs.Prelude.{slice_set, filter, not}
use Rattle.stride_isa.specs.Limits.{monitor_limit}
use Rattle.stride_isa.specs.Listing.{Listing, op_at}
use Rattle.stride_isa.specs.declared.op.Op.{Op}
use Rattle.stride_isa.specs.declared.op.Op.TheVariants as ops
use Rattle.sc_machine.specs.declared.stop.Stop.{Stop}
use Rattle.sc_machine.specs.declared.stop.Stop.TheVariants as stops
use Rattle.sc_machine.specs.ThreadStep.{Thread, start_thread, holds, settled, stop_of}
use Rattle.interleavings.specs.declared.activity.HeldTurn.{HeldTurn}
use Rattle.interleavings.specs.declared.event.Event.{Event}
use Rattle.interleavings.specs.declared.event.Event.TheVariants as events
use Rattle.interleavings.specs.AtomicStep.{held_turn}
use Rattle.interleavings.specs.EventStep.{after_event}
use Rattle.interleavings.specs.Following.{no_turns, turns_after}
use Rattle.interleavings.specs.Laws.{ComesBy, StandsBy}
use Rattle.interleavings.specs.Walking.{IsMet, Walks, held_by, held_by_event, turns_by}
use Rattle.interleavings.proofs.ExitsEnd.{lowered, flags-after_event}
use Rattle.interleavings.proofs.Finishes.{others_kept}
use Rattle.interleavings.proofs.HeldFlags.{IsAnsweredAs, flags_after, none_held, settled-held, stands_answered}
use Rattle.interleavings.proofs.Unstopped.{not_stopped}

-- each monitor that a thread holds is held for the turn of its last entry
abbrev AreHeld : List Bool → List HeldTurn → (ℕ → ℕ) → Type 0
AreHeld flags held turns = (monitor : ℕ) → holds flags monitor ≡ true → held_turn monitor held ≡ Some (turns monitor)

-- after an entry
held_on_enter : (flags : List Bool) (held : List HeldTurn) (turns : ℕ → ℕ) (entered turn monitor : ℕ) → AreHeld flags held turns → holds (slice_set flags entered true) monitor ≡ true → held_turn monitor (held_by_event (events.Enter entered turn) held) ≡ Some (turns_after (events.Enter entered turn) turns monitor)
held_on_enter flags held turns entered turn monitor each up = elim (cases_eq monitor entered) [
  | inl same ↦
      let one : (entered == monitor) ≡ true = eq-eqb entered monitor (sym same) in
      let other : (monitor == entered) ≡ true = eq-eqb monitor entered same in
      ap (λ b. cond b (Some turn) (held_turn monitor held)) one ∙ ap (λ b. Some (cond b turn (turns monitor))) (sym other)
  | inr other ↦
      let one : (entered == monitor) ≡ false = ne_eqb entered monitor (λ same. other (sym same)) in
      let two : (monitor == entered) ≡ false = ne_eqb monitor entered other in
      ap (λ b. cond b (Some turn) (held_turn monitor held)) one
      ∙ each monitor (sym (get_or-set_other flags entered monitor true false other) ∙ up)
      ∙ ap (λ b. Some (cond b turn (turns monitor))) (sym two)
]

-- after an exit
held_on_exit : (flags : List Bool) (held : List HeldTurn) (turns : ℕ → ℕ) (left monitor : ℕ) → AreHeld flags held turns → holds (slice_set flags left false) monitor ≡ true → held_turn monitor (filter (λ h. not (h.mon == left)) held) ≡ Some (turns monitor)
held_on_exit flags held turns left monitor each up = elim (cases_eq monitor left) [
  | inl same ↦ absurd (true≢false (sym up ∙ (ap (holds (slice_set flags left false)) same ∙ lowered flags left)))
  | inr other ↦ others_kept held left monitor other ∙ each monitor (sym (get_or-set_other flags left monitor false false other) ∙ up)
]

-- after an event at the instruction where the thread stands
held_on : (stop : Stop) (turns : ℕ → ℕ) (flags : List Bool) (held : List HeldTurn) (event : Event) → IsMet stop turns event → AreHeld flags held turns → AreHeld (flags_after stop flags) (held_by_event event held) (turns_after event turns)
held_on (stops.Read at) turns flags held (events.Read cell value bound) met each monitor up = each monitor up
held_on (stops.Write at stored) turns flags held (events.Write cell value number) met each monitor up = each monitor up
held_on (stops.Update at change) turns flags held (events.Update cell old new number) met each monitor up = each monitor up
held_on (stops.Enter at) turns flags held (events.Enter entered turn) met each monitor up =
    let same : at ≡ entered = cc in held_on_enter flags held turns entered turn monitor each (subst (λ (m : ℕ). holds (slice_set flags m true) monitor ≡ true) same up)
held_on (stops.Exit at) turns flags held (events.Exit left turn) met each monitor up =
    let same : at ≡ left = cc in held_on_exit flags held turns left monitor each (subst (λ (m : ℕ). holds (slice_set flags m false) monitor ≡ true) same up)
held_on (stops.Ended end) turns flags held (events.Read cell value bound) met each monitor up = absurd cc
held_on (stops.Ended end) turns flags held (events.Write cell value number) met each monitor up = absurd cc
held_on (stops.Ended end) turns flags held (events.Update cell old new number) met each monitor up = absurd cc
held_on (stops.Ended end) turns flags held (events.Enter entered turn) met each monitor up = absurd cc
held_on (stops.Ended end) turns flags held (events.Exit left turn) met each monitor up = absurd cc
held_on stop turns flags held event met each monitor up = absurd cc

-- along a thread's events
walk_held : (p : Listing) (fuel t : ℕ) (es : List Event) (turns : ℕ → ℕ) (held : List HeldTurn) (s last : Thread) → Walks p fuel t es turns s last → AreHeld s.held held turns → AreHeld last.held (held_by es held) (turns_by es turns)
walk_held p fuel t [] turns held s last walks each = subst (λ (x : Thread). AreHeld x.held held turns) walks each
walk_held p fuel t (event ∷ es) turns held s last walks each =
    walk_held p fuel t es (turns_after event turns) (held_by_event event held) (after_event p fuel t event s) last walks.1
    (subst (λ (flags : List Bool). AreHeld flags (held_by_event event held) (turns_after event turns)) (sym (flags-after_event p fuel t turns event s walks.0)) (held_on (stop_of p t s) turns s.held held event walks.0 each))

-- a thread that stands at an exit holds the monitor
held_at_exit : (stop : Stop) (monitor : ℕ) (op : Op) (flags : List Bool) → stop ≡ stops.Exit monitor → IsAnsweredAs stop op flags → holds flags monitor ≡ true
held_at_exit stop monitor op flags e answered = (subst (λ (x : Stop). IsAnsweredAs x op flags) e answered).at_exit

-- a thread that stands at an entry has an instruction that enters
enters_there : (stop : Stop) (monitor : ℕ) (op : Op) (flags : List Bool) → stop ≡ stops.Enter monitor → IsAnsweredAs stop op flags → op ≡ ops.Enter monitor
enters_there stop monitor op flags e answered = (subst (λ (x : Stop). IsAnsweredAs x op flags) e answered).enters

pub stands-by : (p : Listing) (fuel t : ℕ) (es : List Event) (last : Thread) → ComesBy p fuel t es last → StandsBy p t es last
stands-by p fuel t es last walks =
    let none : AreHeld (settled p fuel t start_thread).held [] no_turns = λ monitor up. absurd (true≢false (sym up ∙ (ap (λ (flags : List Bool). holds flags monitor) (settled-held p fuel t start_thread) ∙ none_held monitor_limit monitor))) in
    record {
      holds = λ monitor e. walk_held p fuel t es no_turns [] (settled p fuel t start_thread) last walks none monitor (held_at_exit (stop_of p t last) monitor (op_at p t last.pc) last.held e (stands_answered p t last));
      enters = λ monitor e. enters_there (stop_of p t last) monitor (op_at p t last.pc) last.held e (stands_answered p t last);
      goes_on = not_stopped p fuel t es last walks;
    }

-- What a step of a thread finishes is an event of the shared instruction at which the thread stands.
use Rattle.std.proofs.Common.{◌≡◌, ◌≢◌, ℕ, ◌+◌, ◌*◌, ◌/◌, ◌==◌, Bool, true, false, cond, List, [], ◌∷◌, Option, Some, None, refl, sym, ◌∙◌, ap, inl, inr}
use Rattle.std.proofs.lemmas.Bool.{true≢false, cases_eq, eqb-true, ne_eqb}
use Rattle.std.specs.Prelude.{IsSome, not, filter}
use Rattle.stride_isa.specs.Changes.{applied}
use Rattle.sc_machine.specs.declared.stop.Stop.{Stop}
use Rattle.sc_machine.specs.declared.stop.Stop.TheVariants as stops
use Rattle.sc_machine.specs.ThreadRun.{IsShared}
use Rattle.interleavings.specs.declared.activity.HeldTurn.{HeldTurn}
use Rattle.interleavings.specs.declared.activity.OddLooks.{OddLooks}
use Rattle.interleavings.specs.declared.activity.Phase.{Phase}
use Rattle.interleavings.specs.declared.activity.Phase.TheVariants.{Idle, Loaded, Numbered, Marked, Fetched, Stored, Looked}
use Rattle.interleavings.specs.declared.event.Event.{Event}
use Rattle.interleavings.specs.declared.event.Event.TheVariants as events
use Rattle.interleavings.specs.AtomicStep.{held_turn, turn_or_zero, is_even, read_if, entered_if, finished_by, held_if, held_after}
use Rattle.interleavings.specs.Following.{Makes, turns_after}
use Rattle.interleavings.specs.Driving.{at_of}
use Rattle.interleavings.specs.Walking.{is_exit, IsMet}
use Rattle.interleavings.proofs.InPlace.{IsPhaseAt}
use Rattle.interleavings.proofs.NextSteps.{kind_at}

-- a monitor is held for the turn of the last entry into it
abbrev pub HasEntered : List HeldTurn → (ℕ → ℕ) → Type 0
HasEntered held turns = (monitor turn : ℕ) → held_turn monitor held ≡ Some turn → turns monitor ≡ turn

-- what a step finishes is met where the thread stands, and the turns held are then those of the last entries; a step that
-- finishes nothing leaves the turns, and is not made at an exit
abbrev pub IsFinished : Stop → (ℕ → ℕ) → List HeldTurn → List HeldTurn → Option Event → Type 0
IsFinished stop turns old new None = (new ≡ old) × (is_exit stop ≡ false)
IsFinished stop turns old new (Some event) = IsMet stop turns event × HasEntered new (turns_after event turns)

-- a test for equal numbers either way round
same_test : (a b : ℕ) → (a == b) ≡ (b == a)
same_test a b = elim (cases_eq a b) [
  | inl same ↦ ap (λ x. x == b) same ∙ sym (ap (λ x. b == x) same)
  | inr other ↦ ne_eqb a b other ∙ sym (ne_eqb b a (λ same. other (sym same)))
]

-- two choices by one test
chosen : (b b' : Bool) (turn before u : ℕ) (rest : Option ℕ) → b ≡ b' → (rest ≡ Some u → before ≡ u) → cond b (Some turn) rest ≡ Some u → cond b' turn before ≡ u
chosen true true turn before u rest same else e = cc
chosen false false turn before u rest same else e = else e
chosen true false turn before u rest same else e = absurd (true≢false same)
chosen false true turn before u rest same else e = absurd (true≢false (sym same))

-- an entry is the last one into its monitor
entered_last : (held : List HeldTurn) (turns : ℕ → ℕ) (monitor turn : ℕ) → HasEntered held turns → HasEntered (record { mon = monitor; turn = turn } ∷ held) (turns_after (events.Enter monitor turn) turns)
entered_last held turns monitor turn entered m u e = chosen (monitor == m) (m == monitor) turn (turns m) u (held_turn m held) (same_test monitor m) (entered m u) e

-- a monitor that was left is not held
none_left : (held : List HeldTurn) (monitor : ℕ) → held_turn monitor (filter (λ h. not (h.mon == monitor)) held) ≡ None
none_left [] monitor = refl
none_left (h ∷ held) monitor = without (h.mon == monitor) refl (none_left held monitor)
  where
    without : (dropped : Bool) → (h.mon == monitor) ≡ dropped → held_turn monitor (filter (λ h. not (h.mon == monitor)) held) ≡ None → held_turn monitor (cond (not dropped) (h ∷ filter (λ h. not (h.mon == monitor)) held) (filter (λ h. not (h.mon == monitor)) held)) ≡ None
    without true e rest = rest
    without false e rest = ap (λ b. cond b (Some h.turn) (held_turn monitor (filter (λ h. not (h.mon == monitor)) held))) e ∙ rest

-- the others are held for the turns that they were
pub others_kept : (held : List HeldTurn) (monitor m : ℕ) → m ≢ monitor → held_turn m (filter (λ h. not (h.mon == monitor)) held) ≡ held_turn m held
others_kept [] monitor m other = refl
others_kept (h ∷ held) monitor m other = kept (h.mon == monitor) (λ e. ne_eqb h.mon m (λ same. other (sym same ∙ eqb-true h.mon monitor e))) (others_kept held monitor m other)
  where
    kept : (dropped : Bool) → (dropped ≡ true → (h.mon == m) ≡ false) → held_turn m (filter (λ h. not (h.mon == monitor)) held) ≡ held_turn m held → held_turn m (cond (not dropped) (h ∷ filter (λ h. not (h.mon == monitor)) held) (filter (λ h. not (h.mon == monitor)) held)) ≡ held_turn m (h ∷ held)
    kept true differs rest = rest ∙ sym (ap (λ b. cond b (Some h.turn) (held_turn m held)) (differs refl))
    kept false differs rest = ap (cond (h.mon == m) (Some h.turn)) rest

-- the turns that are still held are those of the last entries
left_entered : (held : List HeldTurn) (turns : ℕ → ℕ) (monitor : ℕ) → HasEntered held turns → HasEntered (filter (λ h. not (h.mon == monitor)) held) turns
left_entered held turns monitor entered m u e = elim (cases_eq m monitor) [
  | inl same ↦ absurd (some_is_not_none u (sym e ∙ ap (λ x. held_turn x (filter (λ h. not (h.mon == monitor)) held)) same ∙ none_left held monitor))
  | inr other ↦ entered m u (sym (others_kept held monitor m other) ∙ e)
]
  where
    some_is_not_none : (u : ℕ) → Some u ≡ None → ⊥
    some_is_not_none u e = cc

-- a read finishes where the number is even
read_finishes : (b : Bool) (cell at value bound : ℕ) (turns : ℕ → ℕ) (held : List HeldTurn) → cell ≡ at → HasEntered held turns → IsFinished (stops.Read cell) turns held held (read_if b (Loaded at value) bound)
read_finishes true cell at value bound turns held same entered = (ap (λ c. Makes (events.Read c value bound)) same, entered)
read_finishes false cell at value bound turns held same entered = (refl, refl)

-- an entry where the monitor is as it was seen
entry_finishes : (b : Bool) (monitor turn : ℕ) (turns : ℕ → ℕ) (held : List HeldTurn) → HasEntered held turns → IsFinished (stops.Enter monitor) turns held (held_if b (record { mon = monitor; turn = turn }) held) (entered_if b monitor turn)
entry_finishes true monitor turn turns held entered = (refl, entered_last held turns monitor turn entered)
entry_finishes false monitor turn turns held entered = (refl, refl)

-- an exit of a monitor that is held has the turn of the last entry
exit_finishes : (monitor : ℕ) (turns : ℕ → ℕ) (held : List HeldTurn) (turn : Option ℕ) → held_turn monitor held ≡ turn → IsSome turn → HasEntered held turns → IsMet (stops.Exit monitor) turns (events.Exit monitor (turn_or_zero turn))
exit_finishes monitor turns held (Some turn) e there entered = ap (λ u. Makes (events.Exit monitor u)) (entered monitor turn e)
exit_finishes monitor turns held None e there entered = absurd (true≢false (sym there))

-- by the shared instruction and the phase
pub step_finishes : (stop : Stop) (name : Option ℕ) (phase : Phase) (done : List Event) (held : List HeldTurn) (looks : Option OddLooks) (turns : ℕ → ℕ) (met : ℕ) → IsShared stop → IsPhaseAt phase stop → ((monitor : ℕ) → stop ≡ stops.Exit monitor → IsSome (held_turn monitor held)) → HasEntered held turns → IsFinished stop turns held (held_after (kind_at stop phase) (at_of stop) phase held met) (finished_by (kind_at stop phase) (at_of stop) (record { name = name; phase = phase; events = done; held = held; looks = looks }) met)
step_finishes (stops.Read cell) name Idle done held looks turns met shared fits holds entered = (refl, refl)
step_finishes (stops.Read cell) name (Loaded at value) done held looks turns met shared fits holds entered = read_finishes (is_even met) cell at value (met / 2) turns held fits entered
step_finishes (stops.Write cell value) name Idle done held looks turns met shared fits holds entered = (refl, refl)
step_finishes (stops.Write cell value) name (Numbered at n) done held looks turns met shared fits holds entered = (refl, refl)
step_finishes (stops.Write cell value) name (Marked at n) done held looks turns met shared fits holds entered = (refl, refl)
step_finishes (stops.Write cell value) name (Stored at n None word) done held looks turns met shared fits holds entered = (ap (λ c. Makes (events.Write c value (n + 1))) fits.0 ∙ ap (λ v. Makes (events.Write at v (n + 1))) fits.1, entered)
step_finishes (stops.Write cell value) name (Stored at n (Some old) word) done held looks turns met shared fits holds entered = absurd fits.1
step_finishes (stops.Update cell change) name Idle done held looks turns met shared fits holds entered = (refl, refl)
step_finishes (stops.Update cell change) name (Numbered at n) done held looks turns met shared fits holds entered = (refl, refl)
step_finishes (stops.Update cell change) name (Marked at n) done held looks turns met shared fits holds entered = (refl, refl)
step_finishes (stops.Update cell change) name (Fetched at n old) done held looks turns met shared fits holds entered = (refl, refl)
step_finishes (stops.Update cell change) name (Stored at n (Some old) word) done held looks turns met shared fits holds entered = (ap (λ c. Makes (events.Update c old (applied change old) (n + 1))) fits.0 ∙ ap (λ v. Makes (events.Update at old v (n + 1))) fits.1, entered)
step_finishes (stops.Update cell change) name (Stored at n None word) done held looks turns met shared fits holds entered = absurd fits.1
step_finishes (stops.Enter monitor) name Idle done held looks turns met shared fits holds entered = (refl, refl)
step_finishes (stops.Enter monitor) name (Looked at turn) done held looks turns met shared fits holds entered = entry_finishes (met == 2 * turn) monitor (turn + 1) turns held entered
step_finishes (stops.Exit monitor) name Idle done held looks turns met shared fits holds entered = (exit_finishes monitor turns held (held_turn monitor held) refl (holds monitor refl) entered, left_entered held turns monitor entered)
step_finishes (stops.Ended end) name phase done held looks turns met shared fits holds entered = absurd shared
step_finishes stop name phase done held looks turns met shared fits holds entered = absurd fits

-- One atomic step of a thread at its shared instruction: it may be made, and the thread is in place after it.
use Rattle.std.proofs.Common.{◌≡◌, ◌≢◌, ℕ, ◌+◌, ◌*◌, ◌/◌, ◌==◌, Bool, true, false, cond, List, [], ◌∷◌, Option, Some, None, length, refl, sym, ◌∙◌, ap, subst, inl, inr}
use Rattle.std.proofs.lemmas.Bool.{true≢false, cases_lt, cases_eq, eqb-true, eqb-false, ne_eqb}
use Rattle.std.proofs.lemmas.List.{get_or-set_same, get_or-set_other, get_or_past, length-set}
use Rattle.std.specs.Prelude.{IsSome, not, filter, slice_set}
use Rattle.stride_isa.specs.Changes.{applied}
use Rattle.stride_isa.specs.declared.change.Change.{Change}
use Rattle.sc_machine.specs.declared.end.End.{End}
use Rattle.sc_machine.specs.declared.stop.Stop.{Stop}
use Rattle.sc_machine.specs.declared.stop.Stop.TheVariants as stops
use Rattle.sc_machine.specs.ThreadRun.{IsShared}
use Rattle.sc_machine.specs.ThreadStep.{holds}
use Rattle.interleavings.specs.declared.activity.Activity.{Activity}
use Rattle.interleavings.specs.declared.activity.HeldTurn.{HeldTurn}
use Rattle.interleavings.specs.declared.activity.OddLooks.{OddLooks}
use Rattle.interleavings.specs.declared.activity.Phase.{Phase}
use Rattle.interleavings.specs.declared.activity.Phase.TheVariants.{Idle, Loaded, Numbered, Marked, Fetched, Stored, Looked}
use Rattle.interleavings.specs.declared.event.Event.{Event}
use Rattle.interleavings.specs.AtomicStep.{held_turn, Begins, Suits, May, is_even, read_if, entered_if, finished_by, phase_if, phase_after, name_after, held_if, held_after, looked, looks_after}
use Rattle.interleavings.specs.Driving.{at_of, value_of}
use Rattle.interleavings.specs.Recording.{gives_up}
use Rattle.interleavings.proofs.HeldFlags.{flags_after, HoldsAtExit}
use Rattle.interleavings.proofs.NextSteps.{kind_at}

-- a write stores its value, and had loaded none
abbrev pub HasWritten : ℕ → Option ℕ → ℕ → Type 0
HasWritten value None word = value ≡ word
HasWritten value (Some old) word = ⊥

-- an update stores what its change makes of the value that it had loaded
abbrev pub HasUpdated : Change → Option ℕ → ℕ → Type 0
HasUpdated change None word = ⊥
HasUpdated change (Some old) word = applied change old ≡ word

-- the thread stands at a read of this cell
abbrev pub ReadsAt : ℕ → Stop → Type 0
ReadsAt at (stops.Read cell) = cell ≡ at
ReadsAt at (stops.Write cell value) = ⊥
ReadsAt at (stops.Update cell change) = ⊥
ReadsAt at (stops.Enter monitor) = ⊥
ReadsAt at (stops.Exit monitor) = ⊥
ReadsAt at (stops.Ended end) = ⊥

-- at a write or an update of it
abbrev pub ClaimsAt : ℕ → Stop → Type 0
ClaimsAt at (stops.Read cell) = ⊥
ClaimsAt at (stops.Write cell value) = cell ≡ at
ClaimsAt at (stops.Update cell change) = cell ≡ at
ClaimsAt at (stops.Enter monitor) = ⊥
ClaimsAt at (stops.Exit monitor) = ⊥
ClaimsAt at (stops.Ended end) = ⊥

-- at an update of it
abbrev pub UpdatesAt : ℕ → Stop → Type 0
UpdatesAt at (stops.Read cell) = ⊥
UpdatesAt at (stops.Write cell value) = ⊥
UpdatesAt at (stops.Update cell change) = cell ≡ at
UpdatesAt at (stops.Enter monitor) = ⊥
UpdatesAt at (stops.Exit monitor) = ⊥
UpdatesAt at (stops.Ended end) = ⊥

-- at a write or an update of it that stores this word, after it loaded this old value or none
abbrev pub StoresAt : ℕ → Option ℕ → ℕ → Stop → Type 0
StoresAt at old word (stops.Read cell) = ⊥
StoresAt at old word (stops.Write cell value) = (cell ≡ at) × HasWritten value old word
StoresAt at old word (stops.Update cell change) = (cell ≡ at) × HasUpdated change old word
StoresAt at old word (stops.Enter monitor) = ⊥
StoresAt at old word (stops.Exit monitor) = ⊥
StoresAt at old word (stops.Ended end) = ⊥

-- at an entry into this monitor
abbrev pub EntersMonitor : ℕ → Stop → Type 0
EntersMonitor at (stops.Read cell) = ⊥
EntersMonitor at (stops.Write cell value) = ⊥
EntersMonitor at (stops.Update cell change) = ⊥
EntersMonitor at (stops.Enter monitor) = monitor ≡ at
EntersMonitor at (stops.Exit monitor) = ⊥
EntersMonitor at (stops.Ended end) = ⊥

-- the phase is one of the shared instruction at which the thread stands; at its end it is idle
abbrev pub IsPhaseAt : Phase → Stop → Type 0
IsPhaseAt Idle stop = Unit {0}
IsPhaseAt (Loaded at value) stop = ReadsAt at stop
IsPhaseAt (Numbered at n) stop = ClaimsAt at stop
IsPhaseAt (Marked at n) stop = ClaimsAt at stop
IsPhaseAt (Fetched at n old) stop = UpdatesAt at stop
IsPhaseAt (Stored at n old word) stop = StoresAt at old word stop
IsPhaseAt (Looked at turn) stop = EntersMonitor at stop

-- each monitor whose flag is up is held for a turn
abbrev pub HasTurns : List Bool → List HeldTurn → Type 0
HasTurns flags held = (monitor : ℕ) → holds flags monitor ≡ true → IsSome (held_turn monitor held)

-- a thread that has not ended has looked less often in a row than the patience says
abbrev pub IsPatient : ℕ → Stop → Option OddLooks → Type 0
IsPatient patience (stops.Read cell) row = gives_up patience row ≡ false
IsPatient patience (stops.Write cell value) row = gives_up patience row ≡ false
IsPatient patience (stops.Update cell change) row = gives_up patience row ≡ false
IsPatient patience (stops.Enter monitor) row = gives_up patience row ≡ false
IsPatient patience (stops.Exit monitor) row = gives_up patience row ≡ false
IsPatient patience (stops.Ended end) row = Unit {0}

-- a thread is in place: it has a name, and what it is doing fits where it stands and the flags that are up
pub record IsInPlace (patience : ℕ) (stop : Stop) (flags : List Bool) (name : Option ℕ) (phase : Phase) (held : List HeldTurn) (looks : Option OddLooks) : Type 0 where
  pub named : IsSome name
  pub fits : IsPhaseAt phase stop
  pub turns : HasTurns flags held
  pub patient : IsPatient patience stop looks

-- the same of all that a thread has done and is doing
abbrev pub AreInPlace : ℕ → Stop → List Bool → Activity → Type 0
AreInPlace patience stop flags activity = IsInPlace patience stop flags activity.name activity.phase activity.held activity.looks

-- a phase of the shared instruction is one in which its next step begins
begins_next : (stop : Stop) (phase : Phase) → IsShared stop → IsPhaseAt phase stop → Begins (kind_at stop phase) (at_of stop) phase
begins_next (stops.Read cell) Idle shared fits = tt
begins_next (stops.Read cell) (Loaded at value) shared fits = fits
begins_next (stops.Write cell value) Idle shared fits = tt
begins_next (stops.Write cell value) (Numbered at n) shared fits = fits
begins_next (stops.Write cell value) (Marked at n) shared fits = fits
begins_next (stops.Write cell value) (Stored at n None word) shared fits = fits.0
begins_next (stops.Write cell value) (Stored at n (Some old) word) shared fits = absurd fits.1
begins_next (stops.Update cell change) Idle shared fits = tt
begins_next (stops.Update cell change) (Numbered at n) shared fits = fits
begins_next (stops.Update cell change) (Marked at n) shared fits = fits
begins_next (stops.Update cell change) (Fetched at n old) shared fits = fits
begins_next (stops.Update cell change) (Stored at n (Some old) word) shared fits = fits.0
begins_next (stops.Update cell change) (Stored at n None word) shared fits = absurd fits.1
begins_next (stops.Enter monitor) Idle shared fits = tt
begins_next (stops.Enter monitor) (Looked at turn) shared fits = fits
begins_next (stops.Exit monitor) Idle shared fits = tt
begins_next (stops.Ended end) phase shared fits = absurd shared
begins_next stop phase shared fits = absurd fits

-- a thread with a name, which has the turn where it stands at an exit, suits its next step
suits_next : (stop : Stop) (phase : Phase) (activity : Activity) → IsShared stop → IsPhaseAt phase stop → IsSome activity.name → ((monitor : ℕ) → stop ≡ stops.Exit monitor → IsSome (held_turn monitor activity.held)) → Suits (kind_at stop phase) (at_of stop) activity
suits_next (stops.Read cell) Idle activity shared fits named turn = named
suits_next (stops.Read cell) (Loaded at value) activity shared fits named turn = tt
suits_next (stops.Write cell value) Idle activity shared fits named turn = named
suits_next (stops.Write cell value) (Numbered at n) activity shared fits named turn = tt
suits_next (stops.Write cell value) (Marked at n) activity shared fits named turn = tt
suits_next (stops.Write cell value) (Stored at n None word) activity shared fits named turn = tt
suits_next (stops.Write cell value) (Stored at n (Some old) word) activity shared fits named turn = absurd fits.1
suits_next (stops.Update cell change) Idle activity shared fits named turn = named
suits_next (stops.Update cell change) (Numbered at n) activity shared fits named turn = tt
suits_next (stops.Update cell change) (Marked at n) activity shared fits named turn = tt
suits_next (stops.Update cell change) (Fetched at n old) activity shared fits named turn = tt
suits_next (stops.Update cell change) (Stored at n (Some old) word) activity shared fits named turn = tt
suits_next (stops.Update cell change) (Stored at n None word) activity shared fits named turn = absurd fits.1
suits_next (stops.Enter monitor) Idle activity shared fits named turn = named
suits_next (stops.Enter monitor) (Looked at count) activity shared fits named turn = tt
suits_next (stops.Exit monitor) Idle activity shared fits named turn = turn monitor refl
suits_next (stops.Ended end) phase activity shared fits named turn = absurd shared
suits_next stop phase activity shared fits named turn = absurd fits

-- a thread that stands at an exit holds the monitor for a turn
pub turn_at_exit : (stop : Stop) (flags : List Bool) (held : List HeldTurn) → HoldsAtExit stop flags → HasTurns flags held → (monitor : ℕ) → stop ≡ stops.Exit monitor → IsSome (held_turn monitor held)
turn_at_exit stop flags held there turns monitor e = turns monitor (subst (λ (x : Stop). HoldsAtExit x flags) e there)

-- the next step of a thread that stands at a shared instruction may be made
pub may_next : (patience : ℕ) (stop : Stop) (flags : List Bool) (activity : Activity) → IsShared stop → HoldsAtExit stop flags → AreInPlace patience stop flags activity → May (kind_at stop activity.phase) (at_of stop) activity
may_next patience stop flags activity shared there before = record {
  begins = begins_next stop activity.phase shared before.fits;
  suits = suits_next stop activity.phase activity shared before.fits before.named (turn_at_exit stop flags activity.held there before.turns);
}

-- the thread is in place after a step: where it finishes no event, at the same stop, or at an end if it gives up; where it
-- finishes one, at any stop with the flags that the answer leaves
abbrev pub IsInPlaceAfter : ℕ → Stop → List Bool → Option ℕ → Phase → List HeldTurn → Option OddLooks → Option Event → Type 0
IsInPlaceAfter patience stop flags name phase held looks None = (gives_up patience looks ≡ false → IsInPlace patience stop flags name phase held looks) × ((end : End) → gives_up patience looks ≡ true → IsInPlace patience (stops.Ended end) flags name phase held looks)
IsInPlaceAfter patience stop flags name phase held looks (Some event) = (other : Stop) → IsInPlace patience other (flags_after stop flags) name phase held looks

-- a thread that does not give up is patient wherever it stands
pub patient_at : (patience : ℕ) (stop : Stop) (looks : Option OddLooks) → gives_up patience looks ≡ false → IsPatient patience stop looks
patient_at patience (stops.Read cell) looks e = e
patient_at patience (stops.Write cell value) looks e = e
patient_at patience (stops.Update cell change) looks e = e
patient_at patience (stops.Enter monitor) looks e = e
patient_at patience (stops.Exit monitor) looks e = e
patient_at patience (stops.Ended end) looks e = tt

module _ (patience : ℕ) (flags : List Bool) (name : Option ℕ) (held : List HeldTurn) (looks : Option OddLooks) (named : IsSome name) (turns : HasTurns flags held) where
  -- a step by which only the phase changes, and that finishes nothing
  goes_on : (stop : Stop) (phase : Phase) → IsPhaseAt phase stop → gives_up patience looks ≡ false → IsInPlaceAfter patience stop flags name phase held looks None
  goes_on stop phase fits e = (
    λ e. record { named = named; fits = fits; turns = turns; patient = patient_at patience stop looks e },
    λ end gives. absurd (true≢false (sym gives ∙ e)),
  )

  -- a step that finishes a read or a write
  finishes : (stop : Stop) → gives_up patience looks ≡ false → IsInPlace patience stop flags name Idle held looks
  finishes stop e = record { named = named; fits = tt; turns = turns; patient = patient_at patience stop looks e }

-- a choice is some turn where the rest is, if that is chosen
some_chosen : (b : Bool) (turn : ℕ) (rest : Option ℕ) → (b ≡ false → IsSome rest) → IsSome (cond b (Some turn) rest)
some_chosen true turn rest h = refl
some_chosen false turn rest h = h refl

-- where the first turn is not chosen, the rest is some turn
some_after : (b : Bool) (turn : ℕ) (rest : Option ℕ) → IsSome (cond b (Some turn) rest) → b ≡ false → IsSome rest
some_after true turn rest h e = absurd (true≢false e)
some_after false turn rest h e = h

-- an entry sets a flag and gives a turn of its monitor
turns_after_entry : (flags : List Bool) (held : List HeldTurn) (monitor turn : ℕ) → HasTurns flags held → HasTurns (slice_set flags monitor true) (record { mon = monitor; turn = turn } ∷ held)
turns_after_entry flags held monitor turn turns m up =
    some_chosen (monitor == m) turn (held_turn m held) (λ e. turns m (sym (get_or-set_other flags monitor m true false (λ same. eqb-false monitor m e (sym same))) ∙ up))

-- the turns of other monitors stay where those of one are dropped
turn_kept : (held : List HeldTurn) (monitor m : ℕ) → m ≢ monitor → IsSome (held_turn m held) → IsSome (held_turn m (filter (λ h. not (h.mon == monitor)) held))
turn_kept [] monitor m other there = there
turn_kept (h ∷ held) monitor m other there = kept (h.mon == monitor) (λ e. ne_eqb h.mon m (λ same. other (sym same ∙ eqb-true h.mon monitor e))) (turn_kept held monitor m other)
  where
    kept : (dropped : Bool) → (dropped ≡ true → (h.mon == m) ≡ false) → (IsSome (held_turn m held) → IsSome (held_turn m (filter (λ h. not (h.mon == monitor)) held))) → IsSome (held_turn m (cond (not dropped) (h ∷ filter (λ h. not (h.mon == monitor)) held) (filter (λ h. not (h.mon == monitor)) held)))
    kept true differs rest = rest (some_after (h.mon == m) h.turn (held_turn m held) there (differs refl))
    kept false differs rest = some_chosen (h.mon == m) h.turn _ (λ e. rest (some_after (h.mon == m) h.turn (held_turn m held) there e))

-- a flag that is taken down is down, also past the end of the list
lowered : (flags : List Bool) (monitor : ℕ) → holds (slice_set flags monitor false) monitor ≡ false
lowered flags monitor = elim (cases_lt monitor (length flags)) [
  | inl h ↦ get_or-set_same flags monitor false false h
  | inr h ↦ get_or_past (slice_set flags monitor false) monitor false (simp length-set h)
]

-- an exit takes the flag down and drops the turns of its monitor
turns_after_exit : (flags : List Bool) (held : List HeldTurn) (monitor : ℕ) → HasTurns flags held → HasTurns (slice_set flags monitor false) (filter (λ h. not (h.mon == monitor)) held)
turns_after_exit flags held monitor turns m up = elim (cases_eq m monitor) [
  | inl same ↦ absurd (true≢false (sym up ∙ ap (λ x. holds (slice_set flags monitor false) x) same ∙ lowered flags monitor))
  | inr other ↦ turn_kept held monitor m other (turns m (sym (get_or-set_other flags monitor m false false other) ∙ up))
]

module _ (patience : ℕ) (flags : List Bool) (name : Option ℕ) (held : List HeldTurn) (looks : Option OddLooks) (named : IsSome name) (turns : HasTurns flags held) (calm : gives_up patience looks ≡ false) where
  -- a read loads the number, and finishes where that is even
  number_loaded : (b : Bool) (cell at value bound : ℕ) → cell ≡ at → IsInPlaceAfter patience (stops.Read cell) flags name (phase_if b Idle (Loaded at value)) held looks (read_if b (Loaded at value) bound)
  number_loaded true cell at value bound e = λ other. finishes patience flags name held looks named turns other calm
  number_loaded false cell at value bound e = goes_on patience flags name held looks named turns (stops.Read cell) (Loaded at value) e calm

  -- a writer goes on to another phase where its test passes, and else begins again
  writer_chose : (b : Bool) (stop : Stop) (phase : Phase) → IsPhaseAt phase stop → IsInPlaceAfter patience stop flags name (phase_if b phase Idle) held looks None
  writer_chose true stop phase fits = goes_on patience flags name held looks named turns stop phase fits calm
  writer_chose false stop phase fits = goes_on patience flags name held looks named turns stop Idle tt calm

  -- an entry looks at its monitor, and counts the looks that find it held
  monitor_looked : (b : Bool) (monitor turn : ℕ) → IsInPlaceAfter patience (stops.Enter monitor) flags name (phase_if b (Looked monitor turn) Idle) held (looked b monitor looks) None
  monitor_looked true monitor turn = (
    λ e. record { named = named; fits = refl; turns = turns; patient = e },
    λ end gives. record { named = named; fits = absurd (true≢false (sym gives)); turns = turns; patient = tt },
  )
  monitor_looked false monitor turn = (
    λ e. record { named = named; fits = tt; turns = turns; patient = e },
    λ end gives. record { named = named; fits = tt; turns = turns; patient = tt },
  )

  -- an entry takes its monitor where that is still as it was seen
  monitor_entered : (b : Bool) (monitor turn : ℕ) → IsInPlaceAfter patience (stops.Enter monitor) flags name Idle (held_if b (record { mon = monitor; turn = turn }) held) looks (entered_if b monitor turn)
  monitor_entered true monitor turn = λ other. finishes patience (slice_set flags monitor true) name (record { mon = monitor; turn = turn } ∷ held) looks named (turns_after_entry flags held monitor turn turns) other calm
  monitor_entered false monitor turn = goes_on patience flags name held looks named turns (stops.Enter monitor) Idle tt calm

-- by the shared instruction and the phase: a thread in place is in place after its next step, whatever word that meets
pub in_place_after : (patience : ℕ) (stop : Stop) (flags : List Bool) (name : Option ℕ) (phase : Phase) (events : List Event) (held : List HeldTurn) (looks : Option OddLooks) (met : ℕ) → IsShared stop → IsInPlace patience stop flags name phase held looks → IsInPlaceAfter patience stop flags (name_after (kind_at stop phase) name met) (phase_after (kind_at stop phase) (at_of stop) (value_of stop phase) phase met) (held_after (kind_at stop phase) (at_of stop) phase held met) (looks_after (kind_at stop phase) (at_of stop) looks met) (finished_by (kind_at stop phase) (at_of stop) (record { name = name; phase = phase; events = events; held = held; looks = looks }) met)
in_place_after patience (stops.Read cell) flags name Idle events held looks met shared before = goes_on patience flags name held looks before.named before.turns (stops.Read cell) (Loaded cell met) refl before.patient
in_place_after patience (stops.Read cell) flags name (Loaded at value) events held looks met shared before = number_loaded patience flags name held looks before.named before.turns before.patient (is_even met) cell at value (met / 2) before.fits
in_place_after patience (stops.Write cell value) flags name Idle events held looks met shared before = writer_chose patience flags name held looks before.named before.turns before.patient (is_even met) (stops.Write cell value) (Numbered cell (met / 2)) refl
in_place_after patience (stops.Write cell value) flags name (Numbered at n) events held looks met shared before = writer_chose patience flags name held looks before.named before.turns before.patient (met == 2 * n) (stops.Write cell value) (Marked at n) before.fits
in_place_after patience (stops.Write cell value) flags name (Marked at n) events held looks met shared before = goes_on patience flags name held looks before.named before.turns (stops.Write cell value) (Stored at n None value) (before.fits, refl) before.patient
in_place_after patience (stops.Write cell value) flags name (Stored at n None word) events held looks met shared before = λ other. finishes patience flags name held looks before.named before.turns other before.patient
in_place_after patience (stops.Write cell value) flags name (Stored at n (Some old) word) events held looks met shared before = absurd before.fits.1
in_place_after patience (stops.Update cell change) flags name Idle events held looks met shared before = writer_chose patience flags name held looks before.named before.turns before.patient (is_even met) (stops.Update cell change) (Numbered cell (met / 2)) refl
in_place_after patience (stops.Update cell change) flags name (Numbered at n) events held looks met shared before = writer_chose patience flags name held looks before.named before.turns before.patient (met == 2 * n) (stops.Update cell change) (Marked at n) before.fits
in_place_after patience (stops.Update cell change) flags name (Marked at n) events held looks met shared before = goes_on patience flags name held looks before.named before.turns (stops.Update cell change) (Fetched at n met) before.fits before.patient
in_place_after patience (stops.Update cell change) flags name (Fetched at n old) events held looks met shared before = goes_on patience flags name held looks before.named before.turns (stops.Update cell change) (Stored at n (Some old) (applied change old)) (before.fits, refl) before.patient
in_place_after patience (stops.Update cell change) flags name (Stored at n (Some old) word) events held looks met shared before = λ other. finishes patience flags name held looks before.named before.turns other before.patient
in_place_after patience (stops.Update cell change) flags name (Stored at n None word) events held looks met shared before = absurd before.fits.1
in_place_after patience (stops.Enter monitor) flags name Idle events held looks met shared before = monitor_looked patience flags name held looks before.named before.turns before.patient (is_even met) monitor (met / 2)
in_place_after patience (stops.Enter monitor) flags name (Looked at turn) events held looks met shared before = monitor_entered patience flags name held looks before.named before.turns before.patient (met == 2 * turn) monitor (turn + 1)
in_place_after patience (stops.Exit monitor) flags name Idle events held looks met shared before = λ other. finishes patience (slice_set flags monitor false) name (filter (λ h. not (h.mon == monitor)) held) looks before.named (turns_after_exit flags held monitor before.turns) other before.patient
in_place_after patience (stops.Ended end) flags name phase events held looks met shared before = absurd shared
in_place_after patience stop flags name phase events held looks met shared before = absurd before.fits

-- What the events of a history tell, read off its chronicle.
use Rattle.std.proofs.Common.{◌≡◌, ℕ, zero, suc, ◌+◌, ◌<◌, ◌≤◌, length, Option, Some, None, option_and_then, slice_get, refl, sym, ◌∙◌, ap, ap₂, subst, inl, inr, arith}
use Rattle.std.proofs.lemmas.Option.{none-some, option_and_then_some, slice_get-get_or, slice_get_within, get_or_from_slice_get}
use Rattle.interleavings.specs.declared.activity.Phase.{Phase}
use Rattle.interleavings.specs.declared.activity.Phase.TheVariants.{Idle, Numbered, Looked}
use Rattle.interleavings.specs.declared.event.Event.{Event}
use Rattle.interleavings.specs.declared.event.Event.TheVariants.{Read, Write, Update, Enter, Exit}
use Rattle.interleavings.specs.declared.traces.Place.{Place}
use Rattle.interleavings.specs.Events.{WriteOf, ReadOf, TurnOf, write_of, read_of, bound_of, entered_by, left_by}
use Rattle.interleavings.specs.History.{State}
use Rattle.interleavings.specs.Recording.{IsAtRest}
use Rattle.interleavings.specs.TraceLists.{TraceLists, IsInRange, events_of}
use Rattle.linkage.specs.Sources.{event_at, IsWriteAt, Stored, IsExitAt, IsReadAt, IsUpdateAt}
use Rattle.event_order.specs.DirectOrder.{WritesAt, EntersAt, LeavesAt}
use Rattle.event_order.specs.Laws.{AreInRange}
use Rattle.histories.specs.Chronicle.{Puts, Entries, Exits, Stamp, Chronicle, IsStepOf, IsWriteOf, IsReadOf, Tells, IsMade, IsChronicleOf, claim_of}

-- the events of a state at rest that has a chronicle
pub record World (traces : TraceLists) (st : State) (c : Chronicle) : Type 0 where
  pub is : IsChronicleOf traces.starts st c
  pub at_rest : (t : ℕ) → IsAtRest (st.people t).activity.phase
  pub events : (t : ℕ) → events_of traces t ≡ (st.people t).activity.events
  pub range : AreInRange traces

-- a thread at rest has claimed nothing
rest_claims : (cell : ℕ) (phase : Phase) → IsAtRest phase → claim_of cell phase ≡ None
rest_claims cell Idle rest = refl
rest_claims cell (Numbered at n) rest = refl
rest_claims cell (Looked monitor turn) rest = refl
rest_claims cell phase rest = absurd rest

-- when the event at a place took effect and was finished
abbrev pub stamp_at : Chronicle → Place → Stamp
stamp_at c at = c.stamp at.thread at.place

-- what a write tells, if there is one
abbrev WriteTold : TraceLists → Chronicle → Place → Option WriteOf → Type 0
WriteTold traces c at None = Unit {0}
WriteTold traces c at (Some w) = IsWriteOf c w.cell w.value w.number at.thread at.place (stamp_at c at).from × (w.cell < length traces.starts)

write_told : (traces : TraceLists) (c : Chronicle) (at : Place) (event : Event) → Tells c at.thread at.place (stamp_at c at) event → IsInRange traces event → WriteTold traces c at (write_of event)
write_told traces c at (Read cell value bound) told range = tt
write_told traces c at (Write cell value number) told range = (told, range)
write_told traces c at (Update cell old new number) told range = (told.0, range)
write_told traces c at (Enter monitor turn) told range = tt
write_told traces c at (Exit monitor turn) told range = tt

-- what an entry tells
abbrev EntryTold : TraceLists → Chronicle → Place → Option TurnOf → Type 0
EntryTold traces c at None = Unit {0}
EntryTold traces c at (Some turn) = IsStepOf c (Entries turn.monitor) turn.turn at.thread at.place (stamp_at c at).from × (turn.monitor < traces.monitors)

entry_told : (traces : TraceLists) (c : Chronicle) (at : Place) (event : Event) → Tells c at.thread at.place (stamp_at c at) event → IsInRange traces event → EntryTold traces c at (entered_by event)
entry_told traces c at (Read cell value bound) told range = tt
entry_told traces c at (Write cell value number) told range = tt
entry_told traces c at (Update cell old new number) told range = tt
entry_told traces c at (Enter monitor turn) told range = (told, range)
entry_told traces c at (Exit monitor turn) told range = tt

-- what an exit tells
abbrev ExitTold : TraceLists → Chronicle → Place → Option TurnOf → Type 0
ExitTold traces c at None = Unit {0}
ExitTold traces c at (Some turn) = IsStepOf c (Exits turn.monitor) turn.turn at.thread at.place (stamp_at c at).from

exit_told : (traces : TraceLists) (c : Chronicle) (at : Place) (event : Event) → Tells c at.thread at.place (stamp_at c at) event → ExitTold traces c at (left_by event)
exit_told traces c at (Read cell value bound) told = tt
exit_told traces c at (Write cell value number) told = tt
exit_told traces c at (Update cell old new number) told = tt
exit_told traces c at (Enter monitor turn) told = tt
exit_told traces c at (Exit monitor turn) told = told

-- what a read tells that was made without a lock
abbrev ReadTold : TraceLists → Chronicle → Place → Option ReadOf → Option ℕ → Type 0
ReadTold traces c at None bound = Unit {0}
ReadTold traces c at (Some r) None = Unit {0}
ReadTold traces c at (Some r) (Some bound) = IsReadOf c r.cell r.value bound (stamp_at c at) × (r.cell < length traces.starts)

read_told : (traces : TraceLists) (c : Chronicle) (at : Place) (event : Event) → Tells c at.thread at.place (stamp_at c at) event → IsInRange traces event → ReadTold traces c at (read_of event) (bound_of event)
read_told traces c at (Read cell value bound) told range = (told, range)
read_told traces c at (Write cell value number) told range = tt
read_told traces c at (Update cell old new number) told range = tt
read_told traces c at (Enter monitor turn) told range = tt
read_told traces c at (Exit monitor turn) told range = tt

-- what an update tells of its old value
abbrev UpdateTold : Chronicle → Option ReadOf → Option WriteOf → Type 0
UpdateTold c None w = Unit {0}
UpdateTold c (Some r) None = Unit {0}
UpdateTold c (Some r) (Some w) = (below : ℕ) → below + 1 ≡ w.number → (c.mark (Puts r.cell) below).value ≡ r.value

update_told : (c : Chronicle) (t spot : ℕ) (stamp : Stamp) (event : Event) → Tells c t spot stamp event → UpdateTold c (read_of event) (write_of event)
update_told c t spot stamp (Read cell value bound) told = tt
update_told c t spot stamp (Write cell value number) told = tt
update_told c t spot stamp (Update cell old new number) told = told.1
update_told c t spot stamp (Enter monitor turn) told = tt
update_told c t spot stamp (Exit monitor turn) told = tt

module _ (traces : TraceLists) (st : State) (c : Chronicle) (w : World traces st c) where
  -- what the event at a place tells
  pub told : (at : Place) (event : Event) → event_at traces at ≡ Some event → Tells c at.thread at.place (stamp_at c at) event
  told at event there = w.is.tells at.thread at.place event (ap (λ es. slice_get es at.place) (sym (w.events at.thread)) ∙ there)

  pub write_at : (at : Place) (write : WriteOf) → WritesAt traces at write → IsWriteOf c write.cell write.value write.number at.thread at.place (stamp_at c at).from × (write.cell < length traces.starts)
  write_at at write is = option_and_then_some write_of (event_at traces at) write is (λ event there tells. subst (λ (o : Option WriteOf). WriteTold traces c at o) tells (write_told traces c at event (told at event there) (w.range at event there)))

  pub entry_at : (at : Place) (turn : TurnOf) → EntersAt traces at turn → IsStepOf c (Entries turn.monitor) turn.turn at.thread at.place (stamp_at c at).from × (turn.monitor < traces.monitors)
  entry_at at turn is = option_and_then_some entered_by (event_at traces at) turn is (λ event there tells. subst (λ (o : Option TurnOf). EntryTold traces c at o) tells (entry_told traces c at event (told at event there) (w.range at event there)))

  pub exit_at : (at : Place) (turn : TurnOf) → LeavesAt traces at turn → IsStepOf c (Exits turn.monitor) turn.turn at.thread at.place (stamp_at c at).from
  exit_at at turn is = option_and_then_some left_by (event_at traces at) turn is (λ event there tells. subst (λ (o : Option TurnOf). ExitTold traces c at o) tells (exit_told traces c at event (told at event there)))

  pub read_at : (at : Place) (cell value bound : ℕ) → IsReadAt traces at cell value bound → IsReadOf c cell value bound (stamp_at c at) × (cell < length traces.starts)
  read_at at cell value bound is = option_and_then_some read_of (event_at traces at) (record { cell = cell; value = value }) is.met (λ event there reads.
      let bounds : bound_of event ≡ Some bound = ap (option_and_then bound_of) (sym there) ∙ is.within in
      subst (λ (o : Option ℕ). ReadTold traces c at (Some (record { cell = cell; value = value })) o) bounds
      (subst (λ (o : Option ReadOf). ReadTold traces c at o (bound_of event)) reads (read_told traces c at event (told at event there) (w.range at event there))))

  pub update_at : (at : Place) (cell old number below : ℕ) → IsUpdateAt traces at cell old number → below + 1 ≡ number → (c.mark (Puts cell) below).value ≡ old
  update_at at cell old number below is one = option_and_then_some read_of (event_at traces at) (record { cell = cell; value = old }) is.met (λ event there reads.
      let writes : write_of event ≡ Some (record { cell = cell; number = number; value = is.new }) = ap (option_and_then write_of) (sym there) ∙ is.made in
      let all : UpdateTold c (Some (record { cell = cell; value = old })) (Some (record { cell = cell; number = number; value = is.new })) =
      subst (λ (o : Option WriteOf). UpdateTold c (Some (record { cell = cell; value = old })) o) writes
      (subst (λ (o : Option ReadOf). UpdateTold c o (write_of event)) reads (update_told c at.thread at.place (stamp_at c at) event (told at event there))) in
      all below one)

  -- an event that stands where a mark says is at that place
  standing : {A : Type 0} (f : Event → Option A) (t i : ℕ) (x : A) → option_and_then f (slice_get (st.people t).activity.events i) ≡ Some x → option_and_then f (event_at traces (record { thread = t; place = i })) ≡ Some x
  standing f t i x is = ap (λ es. option_and_then f (slice_get es i)) (w.events t) ∙ is

  made_write : (cell number : ℕ) → IsMade (Puts cell) number (c.mark (Puts cell) number) (st.people (c.mark (Puts cell) number).who).activity → Stored traces cell number (c.mark (Puts cell) number).value
  made_write cell number (inl event) = (Some (record { thread = (c.mark (Puts cell) number).who; place = (c.mark (Puts cell) number).spot }), standing write_of (c.mark (Puts cell) number).who (c.mark (Puts cell) number).spot _ event)
  made_write cell number (inr claim) = absurd (none-some number (sym (rest_claims cell _ (w.at_rest (c.mark (Puts cell) number).who)) ∙ claim))

  -- each value that was put is there
  pub stored : (cell number : ℕ) → cell < length traces.starts → number ≤ c.count (Puts cell) → Stored traces cell number (c.mark (Puts cell) number).value
  stored cell zero inside le = (None, (refl, slice_get-get_or traces.starts cell 0 inside ∙ ap Some (sym (w.is.starting cell))))
  stored cell (suc n) inside le = made_write cell (suc n) (w.is.made (Puts cell) (suc n) (omega arith) le)

  -- each turn that was ended is there
  pub left : (monitor turn : ℕ) → monitor < traces.monitors → turn ≤ c.count (Exits monitor) → (source : Option Place) × IsExitAt traces source monitor turn
  left monitor zero inside le = (None, (refl, inside))
  left monitor (suc n) inside le = (
    Some (record { thread = (c.mark (Exits monitor) (suc n)).who; place = (c.mark (Exits monitor) (suc n)).spot }),
    standing left_by (c.mark (Exits monitor) (suc n)).who (c.mark (Exits monitor) (suc n)).spot _ (w.is.made (Exits monitor) (suc n) (omega arith) le),
  )

  -- what is stored is a value that was put
  pub stored_is : (cell number value : ℕ) (source : Option Place) → IsWriteAt traces source cell number value → (number ≤ c.count (Puts cell)) × (cell < length traces.starts) × ((c.mark (Puts cell) number).value ≡ value)
  stored_is cell number value None is =
      let same : (c.mark (Puts cell) number).value ≡ (c.mark (Puts cell) 0).value = ap (λ k. (c.mark (Puts cell) k).value) is.0 in
      (omega (arith, is.0), slice_get_within traces.starts cell value is.1, same ∙ w.is.starting cell ∙ get_or_from_slice_get traces.starts cell value 0 is.1)
  stored_is cell number value (Some at) is = (let write = write_at at (record { cell = cell; number = number; value = value }) is in (write.0.step.made, write.1, write.0.equal))

-- places with one thread and one place are one
pub same_places : (one other : Place) → one.thread ≡ other.thread → one.place ≡ other.place → one ≡ other
same_places one other t i = ap₂ (λ (x y : ℕ). record { thread = x; place = y }) t i

-- A thread that is followed through its log uses each entry of it, in order.
use Rattle.std.proofs.Common.{◌≡◌, ℕ, zero, suc, ◌+◌, ◌-◌, ◌<◌, ◌≤◌, List, [], ◌∷◌, ◌++◌, Option, Some, None, Result, Ok, Err, length, refl, sym, ◌∙◌, ap, subst, arith, append_assoc, append-nil}
use Rattle.std.proofs.lemmas.Option.{slice_get_past}
use Rattle.std.specs.Prelude.{slice_get}
use Rattle.stride_isa.specs.Changes.{applied}
use Rattle.stride_isa.specs.Listing.{Listing, op_at}
use Rattle.sc_machine.specs.declared.end.End.{End}
use Rattle.sc_machine.specs.declared.stop.Stop.{Stop}
use Rattle.sc_machine.specs.declared.stop.Stop.TheVariants as stops
use Rattle.sc_machine.specs.ThreadStep.{Thread, Row, Goes, Ends, Stands, start_thread, row, now_unless, moved, local_step, local_steps, settled, answered, stop_in, stop_of}
use Rattle.sc_machine.specs.Schedule.{stopped}
use Rattle.sc_machine.specs.Laws.{HasFuel}
use Rattle.interleavings.specs.declared.event.Event.{Event}
use Rattle.interleavings.specs.declared.event.Event.TheVariants as events
use Rattle.interleavings.specs.declared.event.LogEntry.{LogEntry}
use Rattle.interleavings.specs.declared.event.LogEntry.TheVariants as entries
use Rattle.interleavings.specs.Events.{entry_of, log_of, word_given}
use Rattle.interleavings.specs.Walking.{IsMet}
use Rattle.interleavings.specs.EventStep.{after_event}
use Rattle.interleavings.specs.Following.{Met, Makes, Over, Off, Followed, met_of, on_met, event_before, place_after, turns_after, follow_from, follow, no_turns}
use Rattle.interleavings.proofs.MachineLaws.{MachineLaws, after_event-made}
use Rattle.interleavings.proofs.Walks.{entry_at_seam, place_moved, front_moved}

-- a thread has made no more instructions than its fuel
pub record IsWithin (fuel : ℕ) (s : Thread) : Type 0 where
  pub left : HasFuel fuel s
  pub made : s.made ≤ fuel

-- and so still after a local instruction
moved-made : (fuel : ℕ) (s : Thread) (ended : Option End) (r : Row) → s.ended ≡ ended → IsWithin fuel s → (moved fuel (now_unless ended r) s).made ≤ fuel
moved-made fuel s None (Goes pc stack locals printed) e within = omega (arith, within.left e)
moved-made fuel s None (Ends end) e within = omega (arith, within.left e)
moved-made fuel s None (Stands stop) e within = within.made
moved-made fuel s (Some end) r e within = within.made

local_steps-made : MachineLaws → (p : Listing) (fuel t n : ℕ) (s : Thread) → IsWithin fuel s → (local_steps p fuel t n s).made ≤ fuel
unfolding local_steps
local_steps-made laws p fuel t zero s within = within.made
local_steps-made laws p fuel t (suc n) s within = local_steps-made laws p fuel t n (local_step p fuel t s) (record {
  left = laws.moved fuel _ s within.left;
  made = moved-made fuel s s.ended (row p (op_at p t s.pc) s.pc s.stack s.locals s.held) refl within;
})

pub settled-within : MachineLaws → (p : Listing) (fuel t : ℕ) (s : Thread) → IsWithin fuel s → IsWithin fuel (settled p fuel t s)
unfolding settled
settled-within laws p fuel t s within = record { left = laws.settled p fuel t s within.left; made = local_steps-made laws p fuel t (fuel - s.made) s within }

-- after an event, before which it had not ended
pub after_event-within : MachineLaws → (p : Listing) (fuel t : ℕ) (event : Event) (s : Thread) → s.ended ≡ None → IsWithin fuel s → IsWithin fuel (after_event p fuel t event s)
after_event-within laws p fuel t event s unended within =
    settled-within laws p fuel t (answered p fuel t (word_given event) s) (record { left = laws.answered p fuel t (word_given event) s; made = omega (arith, within.left unended) })

-- a thread that makes an event has not ended
pub makes_open : (ended : Option End) (r : Row) (next : Option LogEntry) (turns : ℕ → ℕ) (event : Event) → met_of (stop_in (now_unless ended r)) next turns ≡ Makes event → ended ≡ None
makes_open None r next turns event met = refl
makes_open (Some end) r None turns event met = cc
makes_open (Some end) r (Some entry) turns event met = cc

-- a thread is over only where no entry is next
over_next : (stop : Stop) (next : Option LogEntry) (turns : ℕ → ℕ) → met_of stop next turns ≡ Over → next ≡ None
over_next stop None turns met = refl
over_next (stops.Read cell) (Some (entries.Read bound v)) turns met = cc
over_next (stops.Read cell) (Some (entries.Write number)) turns met = cc
over_next (stops.Read cell) (Some (entries.Update number old)) turns met = cc
over_next (stops.Read cell) (Some (entries.Enter turn)) turns met = cc
over_next (stops.Write cell value) (Some (entries.Read bound v)) turns met = cc
over_next (stops.Write cell value) (Some (entries.Write number)) turns met = cc
over_next (stops.Write cell value) (Some (entries.Update number old)) turns met = cc
over_next (stops.Write cell value) (Some (entries.Enter turn)) turns met = cc
over_next (stops.Update cell change) (Some (entries.Read bound v)) turns met = cc
over_next (stops.Update cell change) (Some (entries.Write number)) turns met = cc
over_next (stops.Update cell change) (Some (entries.Update number old)) turns met = cc
over_next (stops.Update cell change) (Some (entries.Enter turn)) turns met = cc
over_next (stops.Enter monitor) (Some (entries.Read bound v)) turns met = cc
over_next (stops.Enter monitor) (Some (entries.Write number)) turns met = cc
over_next (stops.Enter monitor) (Some (entries.Update number old)) turns met = cc
over_next (stops.Enter monitor) (Some (entries.Enter turn)) turns met = cc
over_next (stops.Exit monitor) (Some entry) turns met = cc
over_next (stops.Ended end) (Some entry) turns met = cc

-- the next entry is that of the event, where it has one
abbrev pub IsNext : Option LogEntry → Option LogEntry → Type 0
IsNext next None = Unit {0}
IsNext next (Some entry) = next ≡ Some entry

-- what is met is an event of the instruction, whose entry is the next one
pub record IsMade (stop : Stop) (next : Option LogEntry) (turns : ℕ → ℕ) (event : Event) : Type 0 where
  pub is_next : IsNext next (entry_of event)
  pub met : IsMet stop turns event

over_makes : (event : Event) → Over ≡ Makes event → ⊥
over_makes event met = cc

off_makes : (event : Event) → Off ≡ Makes event → ⊥
off_makes event met = cc

makes_same : (one other : Event) → Makes one ≡ Makes other → one ≡ other
makes_same one other met = cc

-- the same of an equal event
made_by : (stop : Stop) (next : Option LogEntry) (turns : ℕ → ℕ) (one other : Event) → Makes one ≡ Makes other → IsMade stop next turns one → IsMade stop next turns other
made_by stop next turns one other met is = subst (λ (event : Event). IsMade stop next turns event) (makes_same one other met) is

pub makes_next : (stop : Stop) (next : Option LogEntry) (turns : ℕ → ℕ) (event : Event) → met_of stop next turns ≡ Makes event → IsMade stop next turns event
makes_next (stops.Exit monitor) next turns event met = made_by (stops.Exit monitor) next turns (events.Exit monitor (turns monitor)) event met (record { is_next = tt; met = refl })
makes_next (stops.Read cell) (Some (entries.Read bound v)) turns event met = made_by (stops.Read cell) (Some (entries.Read bound v)) turns (events.Read cell v bound) event met (record { is_next = refl; met = refl })
makes_next (stops.Read cell) (Some (entries.Write number)) turns event met = absurd (off_makes event met)
makes_next (stops.Read cell) (Some (entries.Update number old)) turns event met = absurd (off_makes event met)
makes_next (stops.Read cell) (Some (entries.Enter turn)) turns event met = absurd (off_makes event met)
makes_next (stops.Read cell) None turns event met = absurd (over_makes event met)
makes_next (stops.Write cell value) (Some (entries.Read bound v)) turns event met = absurd (off_makes event met)
makes_next (stops.Write cell value) (Some (entries.Write number)) turns event met = made_by (stops.Write cell value) (Some (entries.Write number)) turns (events.Write cell value number) event met (record { is_next = refl; met = refl })
makes_next (stops.Write cell value) (Some (entries.Update number old)) turns event met = absurd (off_makes event met)
makes_next (stops.Write cell value) (Some (entries.Enter turn)) turns event met = absurd (off_makes event met)
makes_next (stops.Write cell value) None turns event met = absurd (over_makes event met)
makes_next (stops.Update cell change) (Some (entries.Read bound v)) turns event met = absurd (off_makes event met)
makes_next (stops.Update cell change) (Some (entries.Write number)) turns event met = absurd (off_makes event met)
makes_next (stops.Update cell change) (Some (entries.Update number old)) turns event met = made_by (stops.Update cell change) (Some (entries.Update number old)) turns (events.Update cell old (applied change old) number) event met (record { is_next = refl; met = refl })
makes_next (stops.Update cell change) (Some (entries.Enter turn)) turns event met = absurd (off_makes event met)
makes_next (stops.Update cell change) None turns event met = absurd (over_makes event met)
makes_next (stops.Enter monitor) (Some (entries.Read bound v)) turns event met = absurd (off_makes event met)
makes_next (stops.Enter monitor) (Some (entries.Write number)) turns event met = absurd (off_makes event met)
makes_next (stops.Enter monitor) (Some (entries.Update number old)) turns event met = absurd (off_makes event met)
makes_next (stops.Enter monitor) (Some (entries.Enter turn)) turns event met = made_by (stops.Enter monitor) (Some (entries.Enter turn)) turns (events.Enter monitor turn) event met (record { is_next = refl; met = refl })
makes_next (stops.Enter monitor) None turns event met = absurd (over_makes event met)
makes_next (stops.Ended end) (Some entry) turns event met = absurd (off_makes event met)
makes_next (stops.Ended end) None turns event met = absurd (over_makes event met)

-- the entries that an event uses
abbrev used_by : Event → List LogEntry
used_by event = log_of (event ∷ [])

-- the log after the entry of an event: what is left without it
left_by : (front rest : List LogEntry) (entry : LogEntry) → slice_get (front ++ rest) (length front) ≡ Some entry → (others : List LogEntry) × (rest ≡ entry ∷ others)
left_by front [] entry found = absurd (some_past found)
  where
    some_none : None ≡ Some entry → ⊥
    some_none e = cc

    some_past : slice_get (front ++ []) (length front) ≡ Some entry → ⊥
    some_past found = some_none (sym (slice_get_past (front ++ []) (length front) (omega (arith, ap length (append-nil front)))) ∙ found)
left_by front (first ∷ others) entry found = (others, ap (λ e. e ∷ others) (same (sym (entry_at_seam front first others) ∙ found)))
  where
    same : Some first ≡ Some entry → first ≡ entry
    same e = cc

-- an event uses its entry, which is the first of those that are left
uses : (front rest : List LogEntry) (event : Event) → IsNext (slice_get (front ++ rest) (length front)) (entry_of event) → (others : List LogEntry) × (rest ≡ used_by event ++ others)
uses front rest (events.Exit monitor turn) next = (rest, refl)
uses front rest (events.Read cell value bound) next = left_by front rest (entries.Read bound value) next
uses front rest (events.Write cell value number) next = left_by front rest (entries.Write number) next
uses front rest (events.Update cell old new number) next = left_by front rest (entries.Update number old) next
uses front rest (events.Enter monitor turn) next = left_by front rest (entries.Enter turn) next

-- nothing is left where no entry is next
none_left : (front rest : List LogEntry) → slice_get (front ++ rest) (length front) ≡ None → rest ≡ []
none_left front [] e = refl
none_left front (entry ∷ rest) e = absurd (some_none (sym (entry_at_seam front entry rest) ∙ e))
  where
    some_none : Some entry ≡ None → ⊥
    some_none e = cc

-- that a thread was followed
abbrev pub ok : Followed → Result Followed ℕ
ok f = Ok f

-- that it parts from its log at this place
abbrev pub parted : ℕ → Result Followed ℕ
parted place = Err place

-- two that were followed are the same
pub followed_same : (g f : Followed) → ok g ≡ ok f → g ≡ f
followed_same g f e = cc

pub no_place : (place : ℕ) (f : Followed) → parted place ≡ ok f → ⊥
no_place place f e = cc

-- what follows an event, where the whole was followed
pub event_followed : (event : Event) (r : Result Followed ℕ) (f : Followed) → event_before event r ≡ Ok f → (g : Followed) × (r ≡ Ok g) × (record g { events = event ∷ g.events } ≡ f)
event_followed event (Ok g) f e = (g, refl, followed_same (record g { events = event ∷ g.events }) f e)
event_followed event (Err place) f e = absurd (no_place place f e)

-- the log of an event before others
log_before : (event : Event) (es : List Event) → log_of (event ∷ es) ≡ used_by event ++ log_of es
log_before event es = front_moved [] event es

module _ (laws : MachineLaws) (p : Listing) (fuel t : ℕ) (log : List LogEntry) where
  -- that what is followed for n events more has the log that is left
  abbrev Uses : ℕ → Type 0
  Uses n = (front rest : List LogEntry) (turns : ℕ → ℕ) (s : Thread) (f : Followed) → log ≡ front ++ rest → IsWithin fuel s → fuel < n + s.made → follow_from p fuel t log n (length front) turns s ≡ ok f → log_of f.events ≡ rest

  -- by what is met
  met_uses : (n : ℕ) (front rest : List LogEntry) (turns : ℕ → ℕ) (s : Thread) (f : Followed) → Uses n → log ≡ front ++ rest → IsWithin fuel s → fuel < suc n + s.made → (m : Met) → met_of (stop_of p t s) (slice_get log (length front)) turns ≡ m → on_met (length front) s (λ event. follow_from p fuel t log n (place_after event (length front)) (turns_after event turns) (after_event p fuel t event s)) m ≡ ok f → log_of f.events ≡ rest
  met_uses n front rest turns s f others whole within beyond Over e followed =
      let nothing : rest ≡ [] = none_left front rest (sym (ap (λ l. slice_get l (length front)) whole) ∙ over_next (stop_of p t s) (slice_get log (length front)) turns e) in
      ap (λ (x : Followed). log_of x.events) (sym (followed_same (record { events = []; thread = stopped s }) f followed)) ∙ sym nothing
  met_uses n front rest turns s f others whole within beyond Off e followed = absurd (no_place (length front) f followed)
  met_uses n front rest turns s f others whole within beyond (Makes event) e followed =
      let s' = after_event p fuel t event s in
      let g = event_followed event (follow_from p fuel t log n (place_after event (length front)) (turns_after event turns) s') f followed in
      let unended = makes_open s.ended (row p (op_at p t s.pc) s.pc s.stack s.locals s.held) (slice_get log (length front)) turns event e in
      let next = (makes_next (stop_of p t s) (slice_get log (length front)) turns event e).is_next in
      let used = uses front rest event (subst (λ (l : List LogEntry). IsNext (slice_get l (length front)) (entry_of event)) whole next) in
      let front' = front ++ used_by event in
      let after_it : log ≡ front' ++ used.0 = whole ∙ ap (λ l. front ++ l) used.1 ∙ sym (append_assoc front (used_by event) used.0) in
      let rest_followed : follow_from p fuel t log n (length front') (turns_after event turns) s' ≡ ok g.0 =
      sym (ap (λ place. follow_from p fuel t log n place (turns_after event turns) s') (place_moved front event)) ∙ g.1 in
      let left : log_of g.0.events ≡ used.0 = others front' used.0 (turns_after event turns) s' g.0 after_it (after_event-within laws p fuel t event s unended within) (omega (arith, beyond, after_event-made laws p fuel t event s)) rest_followed in
      ap (λ (x : Followed). log_of x.events) (sym g.2) ∙ log_before event g.0.events ∙ ap (λ l. used_by event ++ l) left ∙ sym used.1

  followed_uses : (n : ℕ) → Uses n
  unfolding follow_from
  followed_uses zero front rest turns s f whole within beyond followed = absurd (omega (arith, beyond, within.made))
  followed_uses (suc n) front rest turns s f whole within beyond followed = met_uses n front rest turns s f (followed_uses n) whole within beyond (met_of (stop_of p t s) (slice_get log (length front)) turns) refl followed

pub log_is_used : MachineLaws → (p : Listing) (fuel t : ℕ) (log : List LogEntry) (f : Followed) → 1 ≤ fuel → follow p fuel t log ≡ Ok f → log_of f.events ≡ log
unfolding follow
log_is_used laws p fuel t log f some followed = followed_uses laws p fuel t log (fuel + 1) [] log no_turns (settled p fuel t start_thread) f refl (settled-within laws p fuel t start_thread (record { left = λ e. omega arith; made = omega arith })) (omega arith) followed

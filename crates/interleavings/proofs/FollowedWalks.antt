-- A thread that was run again by its log went from event to event, and made at least one instruction for each.
use Rattle.std.proofs.Common.{◌≡◌, ℕ, zero, suc, ◌+◌, ◌<◌, ◌≤◌, false, List, [], Option, Ok, length, refl, subst, arith}
use Rattle.std.specs.Prelude.{slice_get}
use Rattle.stride_isa.specs.Listing.{Listing, op_at}
use Rattle.sc_machine.specs.declared.stop.Stop.{Stop}
use Rattle.sc_machine.specs.declared.stop.Stop.TheVariants as stops
use Rattle.sc_machine.specs.ThreadStep.{Thread, start_thread, row, settled, stop_of}
use Rattle.sc_machine.specs.Schedule.{stopped}
use Rattle.interleavings.specs.declared.event.LogEntry.{LogEntry}
use Rattle.interleavings.specs.EventStep.{after_event}
use Rattle.interleavings.specs.Following.{Met, Makes, Over, Off, Followed, no_turns, met_of, on_met, place_after, turns_after, follow_from, follow}
use Rattle.interleavings.specs.Walking.{is_exit, Walks}
use Rattle.interleavings.specs.Laws.{IsWalk}
use Rattle.interleavings.proofs.LogsUsed.{IsWithin, settled-within, after_event-within, makes_open, makes_next, ok, followed_same, no_place, event_followed}
use Rattle.interleavings.proofs.MachineLaws.{MachineLaws, after_event-made}

-- what was followed from here went to some state by its events, and made an instruction for each
pub record HasGone (p : Listing) (fuel t : ℕ) (turns : ℕ → ℕ) (s : Thread) (f : Followed) : Type 0 where
  pub last : Thread
  pub walks : Walks p fuel t f.events turns s last
  pub inside : is_exit (stop_of p t last) ≡ false
  pub thread : f.thread ≡ stopped last
  pub counted : length f.events + s.made ≤ last.made
  pub made : last.made ≤ fuel

-- a thread that is over stands at no exit
over_inside : (stop : Stop) (next : Option LogEntry) (turns : ℕ → ℕ) → met_of stop next turns ≡ Over → is_exit stop ≡ false
over_inside (stops.Read cell) next turns met = refl
over_inside (stops.Write cell value) next turns met = refl
over_inside (stops.Update cell change) next turns met = refl
over_inside (stops.Enter monitor) next turns met = refl
over_inside (stops.Exit monitor) next turns met = cc
over_inside (stops.Ended end) next turns met = refl

module _ (laws : MachineLaws) (p : Listing) (fuel t : ℕ) (log : List LogEntry) where
  -- that what is followed for n events more has gone so
  abbrev Goes : ℕ → Type 0
  Goes n = (place : ℕ) (turns : ℕ → ℕ) (s : Thread) (f : Followed) → IsWithin fuel s → fuel < n + s.made → follow_from p fuel t log n place turns s ≡ ok f → HasGone p fuel t turns s f

  -- by what is met
  met_goes : (n place : ℕ) (turns : ℕ → ℕ) (s : Thread) (f : Followed) → Goes n → IsWithin fuel s → fuel < suc n + s.made → (m : Met) → met_of (stop_of p t s) (slice_get log place) turns ≡ m → on_met place s (λ event. follow_from p fuel t log n (place_after event place) (turns_after event turns) (after_event p fuel t event s)) m ≡ ok f → HasGone p fuel t turns s f
  met_goes n place turns s f others within beyond Over e followed =
      subst (λ (x : Followed). HasGone p fuel t turns s x) (followed_same (record { events = []; thread = stopped s }) f followed)
      (record { last = s; walks = refl; inside = over_inside (stop_of p t s) (slice_get log place) turns e; thread = refl; counted = omega arith; made = within.made })
  met_goes n place turns s f others within beyond Off e followed = absurd (no_place place f followed)
  met_goes n place turns s f others within beyond (Makes event) e followed =
      let s' = after_event p fuel t event s in
      let g = event_followed event (follow_from p fuel t log n (place_after event place) (turns_after event turns) s') f followed in
      let unended = makes_open s.ended (row p (op_at p t s.pc) s.pc s.stack s.locals s.held) (slice_get log place) turns event e in
      let rest = others (place_after event place) (turns_after event turns) s' g.0 (after_event-within laws p fuel t event s unended within) (omega (arith, beyond, after_event-made laws p fuel t event s)) g.1 in
      subst (λ (x : Followed). HasGone p fuel t turns s x) g.2
      (record {
        last = rest.last;
        walks = ((makes_next (stop_of p t s) (slice_get log place) turns event e).met, rest.walks);
        inside = rest.inside;
        thread = rest.thread;
        counted = omega (arith, rest.counted, after_event-made laws p fuel t event s);
        made = rest.made;
      })

  followed_goes : (n : ℕ) → Goes n
  unfolding follow_from
  followed_goes zero place turns s f within beyond followed = absurd (omega (arith, beyond, within.made))
  followed_goes (suc n) place turns s f within beyond followed = met_goes n place turns s f (followed_goes n) within beyond (met_of (stop_of p t s) (slice_get log place) turns) refl followed

pub follow-gone : MachineLaws → (p : Listing) (fuel t : ℕ) (log : List LogEntry) (f : Followed) → 1 ≤ fuel → follow p fuel t log ≡ Ok f → HasGone p fuel t no_turns (settled p fuel t start_thread) f
unfolding follow
follow-gone laws p fuel t log f some followed = followed_goes laws p fuel t log (fuel + 1) 0 no_turns (settled p fuel t start_thread) f (settled-within laws p fuel t start_thread (record { left = λ e. omega arith; made = omega arith })) (omega arith) followed

-- the events lead to where the thread was stopped
pub followed-walk : MachineLaws → (p : Listing) (fuel t : ℕ) (log : List LogEntry) (f : Followed) → 1 ≤ fuel → follow p fuel t log ≡ Ok f → (last : Thread) × IsWalk p fuel t f.events last × (f.thread ≡ stopped last)
followed-walk laws p fuel t log f some followed =
    let gone = follow-gone laws p fuel t log f some followed in
    (gone.last, record { walks = gone.walks; inside = gone.inside }, gone.thread)

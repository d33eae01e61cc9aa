-- The thread numbers of an extension of the direct order give the events of their threads one after another, and each event
-- suits what happened before it.
use Rattle.std.proofs.Common.{◌≡◌, ℕ, ◌+◌, ◌-◌, ◌<◌, ◌≤◌, Bool, true, false, List, [], ◌∷◌, Option, Some, None, length, refl, sym, ◌∙◌, ap, inl, inr, arith}
use Rattle.std.proofs.lemmas.Bool.{true≢false, cases_eq, cases_lt}
use Rattle.std.proofs.lemmas.Option.{slice_get-get_or}
use Rattle.std.specs.Prelude.{is_some, slice_get}
use Rattle.std.specs.Option.{option_and_then}
use Rattle.sc_machine.specs.Machine.{put}
use Rattle.interleavings.specs.declared.event.Event.{Event}
use Rattle.interleavings.specs.declared.event.Event.TheVariants as events
use Rattle.interleavings.specs.declared.traces.Place.{Place}
use Rattle.interleavings.specs.Events.{WriteOf, TurnOf, read_of, write_of, bound_of, entered_by, left_by}
use Rattle.interleavings.specs.TraceLists.{TraceLists, events_of}
use Rattle.linkage.specs.Sources.{event_at}
use Rattle.event_order.specs.DirectOrder.{Direct, LinkRows}
use Rattle.event_order.specs.DirectOrder as direct
use Rattle.event_order.specs.Extensions.{Extends, IsPlace, schedule_of, standing_too}
use Rattle.event_order.proofs.Fits.{World, Fits, Suits, SuitsRead, SuitsWrite, SuitsEnter, SuitsExit, world_after}
use Rattle.event_order.proofs.Keeping.{standing-next}
use Rattle.event_order.proofs.Standing.{IsSound, IsStanding}
use Rattle.event_order.proofs.Suiting.{enter_suits, exit_suits, read_suits, turn_suits, update_suits, write_suits}

-- the event that is there
there : (found : Option Event) → is_some found ≡ true → (event : Event) × (found ≡ Some event)
there None is = absurd (true≢false (sym is))
there (Some event) is = (event, refl)

module _ (traces : TraceLists) (links : LinkRows) (sound : IsSound traces links) where
  -- the next event of a thread stands first behind those that stand
  place_is_next : (done : ℕ → ℕ) (stands : Place → Bool) (w : World) → IsStanding traces links done stands w → (at : Place) → stands at ≡ false → ((before : Place) → Direct traces links before at → stands before ≡ true) → at.place ≡ done at.thread
  place_is_next done stands w standing at down after = elim (cases_lt at.place (done at.thread)) [
    | inl small ↦ absurd (true≢false (sym (standing.fronts at small) ∙ down))
    | inr large ↦ elim (cases_eq at.place (done at.thread)) [
      | inl same ↦ same
      | inr apart ↦ absurd (
          let before : Place = record { thread = at.thread; place = at.place - 1 } in
          let next : at.place ≡ at.place - 1 + 1 = omega arith in
          let small : at.place - 1 < done at.thread = standing.front before (after before (direct.in_thread refl next)) in
          omega arith)
    ]
  ]

  module _ (done : ℕ → ℕ) (stands : Place → Bool) (w : World) (standing : IsStanding traces links done stands w) (at : Place) (down : stands at ≡ false) (place_is : at.place ≡ done at.thread) (after : (before : Place) → Direct traces links before at → stands before ≡ true) where
    -- what the event reads suits
    suits_read : (event : Event) → event_at traces at ≡ Some event → SuitsRead (read_of event) w.cells
    suits_read (events.Read cell value bound) is =
        let linked = sound.linked.reads at cell value bound (record { met = ap (option_and_then read_of) is; within = ap (option_and_then bound_of) is }) in
        read_suits traces links sound done stands w standing at down place_is after cell value bound linked.0 (ap (option_and_then read_of) is) linked.1 linked.2
    suits_read (events.Write cell value number) is = tt
    suits_read (events.Update cell old new number) is = update_suits traces links sound done stands w standing at down place_is after cell old new number is
    suits_read (events.Enter monitor turn) is = tt
    suits_read (events.Exit monitor turn) is = tt

    -- the write that it makes suits
    suits_write : (found : Option WriteOf) → option_and_then write_of (event_at traces at) ≡ found → SuitsWrite found w.counts.writes
    suits_write None is = tt
    suits_write (Some write) is = write_suits traces links sound done stands w standing at down place_is after write is

    -- the turn that it begins suits
    suits_enter : (found : Option TurnOf) → option_and_then entered_by (event_at traces at) ≡ found → SuitsEnter found w.holders w.counts.enters
    suits_enter None is = tt
    suits_enter (Some begun) is = (turn_suits traces links sound done stands w standing at down place_is after begun is, enter_suits traces links sound done stands w standing at down place_is after begun is)

    -- the turn that it ends suits
    suits_exit : (found : Option TurnOf) → option_and_then left_by (event_at traces at) ≡ found → SuitsExit found w.counts.enters
    suits_exit None is = tt
    suits_exit (Some left) is = exit_suits traces links sound done stands w standing at down place_is after left is

    -- the event suits
    event_suits : (event : Event) → event_at traces at ≡ Some event → Suits w event
    event_suits event is = record {
      read = suits_read event is;
      write = suits_write (write_of event) (ap (option_and_then write_of) is);
      enter = suits_enter (entered_by event) (ap (option_and_then entered_by) is);
      left = suits_exit (left_by event) (ap (option_and_then left_by) is);
    }

  -- where each event stands, all of each thread are done
  all_done : (done : ℕ → ℕ) (stands : Place → Bool) (w : World) → IsStanding traces links done stands w → ((at : Place) → IsPlace traces at → stands at ≡ true) → (t : ℕ) → done t ≡ length (events_of traces t)
  all_done done stands w standing all t = elim (cases_lt (done t) (length (events_of traces t))) [
    | inr large ↦ (let small : done t ≤ length (events_of traces t) = standing.within t in omega arith)
    | inl small ↦ absurd (
        let at : Place = record { thread = t; place = done t } in
        let place : IsPlace traces at = ap is_some (slice_get-get_or (events_of traces t) (done t) (events.Read 0 0 0) small) in
        let wrong : done t < done t = standing.front at (all at place) in
        omega arith)
  ]

  -- what is left of an extension fits what happened so far
  pub extension-fits : (places : List Place) (done : ℕ → ℕ) (stands : Place → Bool) (w : World) → IsStanding traces links done stands w → Extends traces links stands places → Fits (events_of traces) done w (schedule_of places)
  extension-fits [] done stands w standing extends = all_done done stands w standing extends
  extension-fits (at ∷ places) done stands w standing extends =
      let event = there (event_at traces at) extends.0 in
      let place_is = place_is_next done stands w standing at extends.1 extends.2 in
      let next : slice_get (events_of traces at.thread) (done at.thread) ≡ Some event.0 = ap (slice_get (events_of traces at.thread)) (sym place_is) ∙ event.1 in (
        event.0,
        next,
        event_suits done stands w standing at extends.1 place_is extends.2 event.0 event.1,
        extension-fits places (put done at.thread (done at.thread + 1)) (standing_too at stands) (world_after at.thread event.0 w)
            (standing-next traces links sound done stands w standing at extends.1 place_is extends.2 event.0 event.1) extends.3,
      )

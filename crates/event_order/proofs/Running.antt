-- Thread numbers that fit are a run of the machine: each turn makes the next event of its thread.
use Rattle.std.proofs.Common.{◌≡◌, ◌≢◌, ℕ, suc, ◌+◌, ◌<◌, ◌≤◌, ◌==◌, true, false, List, [], ◌∷◌, Some, length, drop, map, refl, sym, ◌∙◌, ap, ap₂, subst, inl, inr, arith, eq-eqb}
use Rattle.std.proofs.Math.Seq.{drop-cons, drop-length}
use Rattle.std.proofs.lemmas.Bool.{cases_eq, cases_lt, ne_eqb}
use Rattle.std.proofs.lemmas.List.{get_or-set_same, get_or-set_other, length-set}
use Rattle.std.proofs.lemmas.Option.{get_or_from_slice_get, slice_get_within}
use Rattle.std.specs.Prelude.{slice_get}
use Rattle.stride_isa.specs.Listing.{Listing}
use Rattle.sc_machine.specs.declared.stop.Stop.{Stop}
use Rattle.sc_machine.specs.ThreadStep.{Thread, now, answered, settled, start_thread, stop_of}
use Rattle.sc_machine.specs.Machine.{Machine, can, cells_after, holders_after, may_pass, put, thread_at, word_read}
use Rattle.sc_machine.specs.Schedule.{turn, turned, turns}
use Rattle.sc_machine.specs.Laws.{TurnByStop}
use Rattle.interleavings.specs.declared.event.Event.{Event}
use Rattle.interleavings.specs.EventStep.{after_event}
use Rattle.interleavings.specs.Following.{turns_after}
use Rattle.interleavings.specs.RunEvents.{Counts, counts_after, event_made, if_made, plain, turn_events}
use Rattle.interleavings.specs.Walking.{Walks}
use Rattle.event_order.proofs.Fits.{World, Fits, Suits, world_after}
use Rattle.event_order.proofs.Meeting.{Meets, meets, stands_where_met}
use Rattle.event_order.proofs.Places.{put-same, put-other}

-- the machine is where its threads' events lead that are done, each thread still goes through its other events to its last
-- state, and nobody else has events
pub record IsAt (p : Listing) (fuel : ℕ) (events : ℕ → List Event) (last : ℕ → Thread) (done : ℕ → ℕ) (entered : ℕ → ℕ → ℕ) (w : World) (m : Machine) : Type 0 where
  pub cells : m.cells ≡ w.cells
  pub holders : m.holders ≡ w.holders
  pub walks : (t : ℕ) → t < length m.threads → Walks p fuel t (drop (done t) (events t)) (entered t) (thread_at m t) (last t)
  pub nobody : (t : ℕ) → length m.threads ≤ t → events t ≡ []

-- these turns can be made; they lead each thread to its last state through its other events
pub record Leads (p : Listing) (fuel : ℕ) (events : ℕ → List Event) (last : ℕ → Thread) (done : ℕ → ℕ) (w : World) (ts : List ℕ) (m : Machine) : Type 0 where
  pub machine : Machine
  pub made : turns p fuel ts m ≡ Some machine
  pub count : length machine.threads ≡ length m.threads
  pub threads : (t : ℕ) → t < length m.threads → thread_at machine t ≡ last t
  pub told : (t : ℕ) → turn_events p fuel t ts m w.counts ≡ map plain (drop (done t) (events t))

-- what is left from an element on
left_from : (events : List Event) (place : ℕ) (event : Event) → slice_get events place ≡ Some event → drop place events ≡ event ∷ drop (place + 1) events
left_from events place event is =
    let inside : place < length events = slice_get_within events place event is in
    let next : suc place ≡ place + 1 = omega arith in
    drop-cons events place event inside ∙ ap₂ (λ e n. e ∷ drop n events) (get_or_from_slice_get events place event event is) next

-- nothing is left behind all
nothing_left : (events : List Event) (place : ℕ) → place ≡ length events → drop place events ≡ []
nothing_left events place all = ap (λ n. drop n events) all ∙ drop-length events

module _ (p : Listing) (fuel : ℕ) (events : ℕ → List Event) (last : ℕ → Thread) (turn_by_stop : TurnByStop) where
  -- no turns lead nowhere
  no_turns_lead : (done : ℕ → ℕ) (entered : ℕ → ℕ → ℕ) (w : World) (m : Machine) → IsAt p fuel events last done entered w m → ((t : ℕ) → done t ≡ length (events t)) → Leads p fuel events last done w [] m
  unfolding turns turn_events
  no_turns_lead done entered w m at all = record {
    machine = m;
    made = refl;
    count = refl;
    threads = λ t there. rest_walks t (drop (done t) (events t)) (nothing_left (events t) (done t) (all t)) (at.walks t there);
    told = λ t. ap (map plain) (sym (nothing_left (events t) (done t) (all t)));
  }
    where
      rest_walks : (t : ℕ) (rest : List Event) → rest ≡ [] → Walks p fuel t rest (entered t) (thread_at m t) (last t) → thread_at m t ≡ last t
      rest_walks t [] none walks = walks
      rest_walks t (event ∷ rest) none walks = absurd cc

  module _ (t : ℕ) (event : Event) (done : ℕ → ℕ) (entered : ℕ → ℕ → ℕ) (w : World) (m : Machine) (at : IsAt p fuel events last done entered w m) (next : slice_get (events t) (done t) ≡ Some event) (suits : Suits w event) where
    -- the thread is there
    there : t < length m.threads
    there = elim (cases_lt t (length m.threads)) [
      | inl small ↦ small
      | inr large ↦ absurd (let wrong : slice_get {X = Event} [] (done t) ≡ Some event = ap (λ es. slice_get es (done t)) (sym (at.nobody t large)) ∙ next in cc)
    ]

    -- where the thread stands
    abbrev stop : Stop
    stop = stop_of p t (thread_at m t)

    -- its walk through this event and the others
    walk : Walks p fuel t (event ∷ drop (done t + 1) (events t)) (entered t) (thread_at m t) (last t)
    walk = subst (λ (es : List Event). Walks p fuel t es (entered t) (thread_at m t) (last t)) (left_from (events t) (done t) event next) (at.walks t there)

    -- what is met there
    met : Meets t stop event w
    met = meets stop (entered t) event t w walk.0 suits

    -- the turn by the stop
    by_stop : (can p t m ≡ may_pass t stop m.holders) × (turn p fuel t m ≡ turned p fuel t stop m)
    by_stop = turn_by_stop p fuel t stop m there (stands_where_met (now p t (thread_at m t)) (entered t) event walk.0)

    -- the thread can make it
    can_go : can p t m ≡ true
    can_go = by_stop.0 ∙ (ap (may_pass t stop) at.holders ∙ met.pass)

    -- where it leads
    abbrev after : Machine
    after = turned p fuel t stop m

    -- the thread after the event
    own_after : thread_at after t ≡ after_event p fuel t event (thread_at m t)
    unfolding turned
    own_after =
        get_or-set_same m.threads t (settled p fuel t (answered p fuel t (word_read stop m.cells) (thread_at m t))) start_thread there
        ∙ ap (λ word. settled p fuel t (answered p fuel t word (thread_at m t))) (ap (word_read stop) at.cells ∙ met.word)

    -- another thread after the event
    other_after : (u : ℕ) → u ≢ t → thread_at after u ≡ thread_at m u
    unfolding turned
    other_after u apart = get_or-set_other m.threads t u (settled p fuel t (answered p fuel t (word_read stop m.cells) (thread_at m t))) start_thread apart

    -- how many threads there are
    count_after : length after.threads ≡ length m.threads
    unfolding turned
    count_after = length-set m.threads t (settled p fuel t (answered p fuel t (word_read stop m.cells) (thread_at m t)))

    -- each thread goes on
    walks_after : (u : ℕ) → u < length after.threads → Walks p fuel u (drop (put done t (done t + 1) u) (events u)) (put entered t (turns_after event (entered t)) u) (thread_at after u) (last u)
    walks_after u small = elim (cases_eq u t) [
      | inl same ↦
          let P : ℕ → Type 0 = λ v. Walks p fuel v (drop (put done t (done t + 1) v) (events v)) (put entered t (turns_after event (entered t)) v) (thread_at after v) (last v) in
          let first : Walks p fuel t (drop (done t + 1) (events t)) (turns_after event (entered t)) (thread_at after t) (last t) = subst (λ (s : Thread). Walks p fuel t (drop (done t + 1) (events t)) (turns_after event (entered t)) s (last t)) (sym own_after) walk.1 in
          let second : Walks p fuel t (drop (put done t (done t + 1) t) (events t)) (turns_after event (entered t)) (thread_at after t) (last t) = subst (λ (n : ℕ). Walks p fuel t (drop n (events t)) (turns_after event (entered t)) (thread_at after t) (last t)) (sym (put-same done t (done t + 1))) first in
          let third : P t = subst (λ (f : ℕ → ℕ). Walks p fuel t (drop (put done t (done t + 1) t) (events t)) f (thread_at after t) (last t)) (sym (put-same entered t (turns_after event (entered t)))) second in
          subst P (sym same) third
      | inr apart ↦
          let first : Walks p fuel u (drop (done u) (events u)) (entered u) (thread_at m u) (last u) = at.walks u (subst (λ (n : ℕ). u < n) count_after small) in
          let second : Walks p fuel u (drop (done u) (events u)) (entered u) (thread_at after u) (last u) = subst (λ (s : Thread). Walks p fuel u (drop (done u) (events u)) (entered u) s (last u)) (sym (other_after u apart)) first in
          let third : Walks p fuel u (drop (put done t (done t + 1) u) (events u)) (entered u) (thread_at after u) (last u) = subst (λ (n : ℕ). Walks p fuel u (drop n (events u)) (entered u) (thread_at after u) (last u)) (sym (put-other done t u (done t + 1) apart)) second in
          subst (λ (f : ℕ → ℕ). Walks p fuel u (drop (put done t (done t + 1) u) (events u)) f (thread_at after u) (last u)) (sym (put-other entered t u (turns_after event (entered t)) apart)) third
    ]

    -- the machine is where the event leads
    at_after : IsAt p fuel events last (put done t (done t + 1)) (put entered t (turns_after event (entered t))) (world_after t event w) after
    unfolding turned
    at_after = record {
      cells = ap (cells_after stop) at.cells ∙ met.cells;
      holders = ap (holders_after t stop) at.holders ∙ met.holders;
      walks = walks_after;
      nobody = λ u large. at.nobody u (subst (λ (n : ℕ). n ≤ u) count_after large);
    }

    -- the events of the threads with this one in front
    told_first : (ts : List ℕ) → ((u : ℕ) → turn_events p fuel u ts after (world_after t event w).counts ≡ map plain (drop (put done t (done t + 1) u) (events u))) → (u : ℕ) → turn_events p fuel u (t ∷ ts) m w.counts ≡ map plain (drop (done u) (events u))
    unfolding turn_events
    told_first ts told u =
        let others : turn_events p fuel u ts (turn p fuel t m) (counts_after stop w.counts) ≡ map plain (drop (put done t (done t + 1) u) (events u)) = ap₂ (λ (machine : Machine) (counts : Counts). turn_events p fuel u ts machine counts) by_stop.1 met.counts ∙ told u in
        let event_is : event_made stop m.cells w.counts ≡ Some (plain event) = ap (λ cells. event_made stop cells w.counts) at.cells ∙ met.made in
        elim (cases_eq t u) [
          | inr apart ↦
              let test : (t == u) ≡ false = ne_eqb t u apart in
              let place : put done t (done t + 1) u ≡ done u = put-other done t u (done t + 1) (λ e. apart (sym e)) in
              rw test (others ∙ ap (λ n. map plain (drop n (events u))) place)
          | inl same ↦
              let test : (t == u) ≡ true = eq-eqb t u same in
              let place : put done t (done t + 1) u ≡ done u + 1 = ap (put done t (done t + 1)) (sym same) ∙ (put-same done t (done t + 1) ∙ ap (λ v. done v + 1) same) in
              let own : slice_get (events u) (done u) ≡ Some event = subst (λ (v : ℕ). slice_get (events v) (done v) ≡ Some event) same next in
              rw test (ap₂ if_made event_is (others ∙ ap (λ n. map plain (drop n (events u))) place) ∙ sym (ap (map plain) (left_from (events u) (done u) event own)))
        ]

    -- a turn before others
    turn_first : (ts : List ℕ) → Leads p fuel events last (put done t (done t + 1)) (world_after t event w) ts after → Leads p fuel events last done w (t ∷ ts) m
    unfolding turns
    turn_first ts rest = record {
      machine = rest.machine;
      made = rw can_go (ap (turns p fuel ts) by_stop.1 ∙ rest.made);
      count = rest.count ∙ count_after;
      threads = λ u small. rest.threads u (subst (λ (n : ℕ). u < n) (sym count_after) small);
      told = told_first ts rest.told;
    }

  -- numbers that fit lead each thread through its events
  pub fitting-leads : (ts : List ℕ) (done : ℕ → ℕ) (entered : ℕ → ℕ → ℕ) (w : World) (m : Machine) → IsAt p fuel events last done entered w m → Fits events done w ts → Leads p fuel events last done w ts m
  fitting-leads [] done entered w m at fits = no_turns_lead done entered w m at fits
  fitting-leads (t ∷ ts) done entered w m at fits =
      turn_first t fits.0 done entered w m at fits.1 fits.2 ts
      (fitting-leads ts (put done t (done t + 1)) (put entered t (turns_after fits.0 (entered t))) (world_after t fits.0 w) (turned p fuel t (stop_of p t (thread_at m t)) m) (at_after t fits.0 done entered w m at fits.1 fits.2) fits.3)

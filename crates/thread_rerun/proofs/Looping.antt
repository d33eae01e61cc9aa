-- A thread is run again event by event.
use Rattle.std.proofs.Common.{replicate, ◌≡◌, ℕ, zero, suc, ◌+◌, ◌-◌, ◌<◌, ◌≤◌, List, [], ◌∷◌, ◌++◌, Option, Result, Ok, Err, length, refl, sym, ◌∙◌, ap, arith, append_assoc, length-append}
use Rattle.std.proofs.lemmas.List.{append-nil, get_or-set_same, set-get_or}
use Rattle.std.specs.Prelude.{slice_set, slice_index, slice_get}
use Rattle.stride_isa.specs.Listing.{Listing}
use Rattle.sc_machine.specs.declared.stop.Stop.{Stop}
use Rattle.sc_machine.specs.declared.stop.Stop.TheVariants as stops
use Rattle.sc_machine.specs.Schedule.{stopped}
use Rattle.sc_machine.specs.ThreadStep.{Thread, Stands, now, stop_in}
use Rattle.sc_machine.specs.StandingThread.{Standing}
use Rattle.sc_machine.specs.ThreadRun.{IsShared}
use Rattle.interleavings.specs.declared.event.Event.{Event}
use Rattle.interleavings.specs.declared.event.Event.TheVariants as events
use Rattle.interleavings.specs.declared.event.LogEntry.{LogEntry}
use Rattle.interleavings.specs.EventStep.{after_event}
use Rattle.interleavings.specs.Laws.{EventMakesMore}
use Rattle.interleavings.specs.TraceLists.{TraceLists, events_of, with_event_of}
use Rattle.interleavings.specs.Following.{Met, Makes, Over, Off, Followed, met_of, on_met, event_before, follow_from, place_after, turns_after}
use Rattle.thread_rerun.specs.declared.follower.Follower.{Follower}
use Rattle.thread_rerun.specs.declared.meeting.Met.{Met as Told}
use Rattle.thread_rerun.specs.declared.meeting.Met.TheVariants as told
use Rattle.thread_rerun.specs.Shows.{Going, IsGone, IsOver, Suits, events_before, following, seen_met, turns_in, with_events}

-- a row with an element set twice
set_twice : {A : Type 0} (l : List A) (i : ℕ) (a b : A) → slice_set (slice_set l i a) i b ≡ slice_set l i b
set_twice [] i a b = refl
set_twice (x ∷ l) zero a b = refl
set_twice (x ∷ l) (suc i) a b = ap (λ rest. x ∷ rest) (set_twice l i a b)

-- no events before
before_nothing : (r : Result Followed ℕ) → r ≡ events_before [] r
before_nothing (Ok rest) = refl
before_nothing (Err place) = refl

-- an event after the others
before_one : (es : List Event) (event : Event) (r : Result Followed ℕ) → events_before es (event_before event r) ≡ events_before (es ++ event ∷ []) r
before_one es event (Ok rest) = ap (λ events. Ok (record rest { events = events })) (sym (append_assoc es (event ∷ []) rest.events))
before_one es event (Err place) = refl

-- the traces with no events besides
with_nothing : (traces : TraceLists) (t : ℕ) → traces ≡ with_events traces t []
with_nothing traces t =
    ap (λ events. record traces { events = events }) (sym (ap (λ es. slice_set traces.events t es) (append-nil (events_of traces t)) ∙ set-get_or traces.events t []))

-- the events of a thread that has more
events_here : (traces : TraceLists) (t : ℕ) (es : List Event) → t < length traces.events → events_of (with_events traces t es) t ≡ events_of traces t ++ es
events_here traces t es inside = get_or-set_same traces.events t (events_of traces t ++ es) [] inside

-- the traces with one more event
with_one : (traces : TraceLists) (t : ℕ) (es : List Event) (event : Event) → t < length traces.events → with_event_of (with_events traces t es) t event ≡ with_events traces t (es ++ event ∷ [])
with_one traces t es event inside =
    ap (λ events. record traces { events = events })
    (set_twice traces.events t (events_of traces t ++ es) (events_of (with_events traces t es) t ++ event ∷ [])
    ∙ ap (λ all. slice_set traces.events t (all ++ event ∷ [])) (events_here traces t es inside)
    ∙ ap (λ all. slice_set traces.events t all) (append_assoc (events_of traces t) es (event ∷ [])))

-- a row of zeros has 0 everywhere
pub zeros : (n i : ℕ) → slice_index (replicate n 0) i ≡ 0
zeros zero i = refl
zeros (suc n) zero = refl
zeros (suc n) (suc i) = zeros n i

-- a number with one below it is one more than some number
is_more : (x n : ℕ) → x < n → (k : ℕ) × (n ≡ suc k)
is_more x zero less = absurd (omega arith)
is_more x (suc k) less = (k, refl)

-- what is met, from what the code tells
abbrev told_met : Told → Met
told_met (told.Makes event) = Makes event
told_met told.Over = Over
told_met told.Off = Off

-- it is the same
same_met : (m : Met) → told_met (seen_met m) ≡ m
same_met (Makes event) = refl
same_met Over = refl
same_met Off = refl

-- what is met where the code tells this
met_is : {result : Told} (m : Met) (tells : Told) → result ≡ tells → result ≡ seen_met m → m ≡ told_met tells
met_is m tells this that = sym (same_met m) ∙ ap told_met (sym that ∙ this)

-- one turn of following, by what is met where the thread stands
module _ (p : Listing) (fuel t : ℕ) (log : List LogEntry) (place : ℕ) (turns : ℕ → ℕ) (s : Thread) (stop : Stop) (next : Option LogEntry) where
  abbrev goes : ℕ → Event → Result Followed ℕ
  goes n event = follow_from p fuel t log n (place_after event place) (turns_after event turns) (after_event p fuel t event s)

  turn_of : (n : ℕ) (m : Met) → now p t s ≡ Stands stop → next ≡ slice_get log place → met_of stop next turns ≡ m → follow_from p fuel t log (suc n) place turns s ≡ on_met place s (goes n) m
  unfolding follow_from
  turn_of n m stands is_next is_met =
      ap (on_met place s (goes n)) (ap (λ row. met_of (stop_in row) (slice_get log place) turns) stands ∙ ap (λ (entry : Option LogEntry). met_of stop entry turns) (sym is_next) ∙ is_met)

  over_at : (n : ℕ) → now p t s ≡ Stands stop → next ≡ slice_get log place → met_of stop next turns ≡ Over → follow_from p fuel t log n place turns s ≡ Ok (record { events = []; thread = stopped s })
  unfolding follow_from
  over_at zero stands is_next is_met = refl
  over_at (suc n) stands is_next is_met = turn_of n Over stands is_next is_met

-- an event comes of a shared instruction alone
suits_shared : (stop : Stop) (event : Event) → Suits stop event → IsShared stop
suits_shared (stops.Read at) event suits = tt
suits_shared (stops.Write at word) event suits = tt
suits_shared (stops.Update at change) event suits = tt
suits_shared (stops.Enter at) event suits = tt
suits_shared (stops.Exit at) event suits = tt
suits_shared (stops.Ended end) event suits = suits

-- the place after an event
place_grows : (event : Event) (place : ℕ) → place_after event place ≤ place + 1
place_grows (events.Exit monitor turn) place = omega arith
place_grows (events.Read cell value bound) place = omega arith
place_grows (events.Write cell value number) place = omega arith
place_grows (events.Update cell old new number) place = omega arith
place_grows (events.Enter monitor turn) place = omega arith

module _ (old half : Follower) (log : List LogEntry) (t : ℕ) (before sofar : TraceLists) (going : Going old half log t before sofar) (stop : Stop) (stands : now half.thread.program half.thread.number half.thread.state ≡ Stands stop) (next : Option LogEntry) (is_next : next ≡ slice_get log half.place) (result : Told) (meets : result ≡ seen_met (met_of stop next (turns_in half))) where
  abbrev p : Listing
  p = old.thread.program

  abbrev fuel : ℕ
  fuel = old.thread.fuel

  abbrev s : Thread
  s = half.thread.state

  -- it stands there in the program
  stands_there : now p t s ≡ Stands stop
  stands_there =
      let is = going.is_thread in
      sym (ap (λ q. now q half.thread.number s) is.program ∙ ap (λ n. now p n s) is.which) ∙ stands

  pub goes_on : EventMakesMore → (event : Event) → result ≡ told.Makes event → Suits stop event → (IsShared stop → s.made < half.thread.fuel) → t < length before.events → (new : Follower) → IsGone half new event → Going old new log t before (with_event_of sofar t event)
  goes_on makes_more event is fits fuel_left inside new gone =
      let f = going.is_thread in
      let left : s.made < half.thread.fuel = fuel_left (suits_shared stop event fits) in
      let k = is_more (fuel - s.made) going.n going.enough in
      let es : List Event = going.so_far ++ event ∷ [] in
      let s' : Thread = after_event p fuel t event s in
      let same : new.thread.state ≡ s'
      = ap (λ (x : Standing). x.state) gone.thread
      ∙ ap (λ q. after_event q half.thread.fuel half.thread.number event s) f.program
      ∙ ap (λ limit. after_event p limit half.thread.number event s) f.fuel_is
      ∙ ap (λ u. after_event p fuel u event s) f.which in
      let grows : s.made < new.thread.state.made = omega (arith, makes_more p fuel t event s, ap (λ (x : Thread). x.made) same) in
      let traces : with_event_of sofar t event ≡ with_events before t (going.so_far ++ event ∷ []) = ap (λ tr. with_event_of tr t event) going.traces ∙ with_one before t going.so_far event inside in
      record {
        is_thread = record {
          program = ap (λ (x : Standing). x.program) gone.thread ∙ f.program;
          fuel_is = ap (λ (x : Standing). x.fuel) gone.thread ∙ f.fuel_is;
          which = ap (λ (x : Standing). x.number) gone.thread ∙ f.which;
        };
        place = omega (arith, gone.place, grows, going.place, place_grows event half.place);
        low = omega (arith, gone.place, left, f.fuel_is, going.place, place_grows event half.place);
        n = k.0;
        enough = omega (arith, left, f.fuel_is, grows, going.enough, k.1);
        so_far = going.so_far ++ event ∷ [];
        traces = traces;
        few = omega (arith, going.few, grows, length-append going.so_far (event ∷ []));
        whole = going.whole
            ∙ ap (λ n. events_before going.so_far (follow_from p fuel t log n half.place (turns_in half) s)) k.1
            ∙ ap (events_before going.so_far) (turn_of p fuel t log half.place (turns_in half) s stop next k.0 (Makes event) stands_there is_next (met_is _ (told.Makes event) is meets))
            ∙ before_one going.so_far event _
            ∙ ap (λ place. events_before es (follow_from p fuel t log k.0 place (turns_after event (turns_in half)) s')) (sym gone.place)
            ∙ ap (λ turns. events_before es (follow_from p fuel t log k.0 new.place turns s')) (sym gone.turns)
            ∙ ap (λ thread. events_before es (follow_from p fuel t log k.0 new.place (turns_in new) thread)) (sym same);
      }

  pub falls : EventMakesMore → (event : Event) → Suits stop event → (IsShared stop → s.made < half.thread.fuel) → (new : Follower) → IsGone half new event → new.thread.fuel - new.thread.state.made < half.thread.fuel - s.made
  falls makes_more event fits fuel_left new gone =
      let left : s.made < half.thread.fuel = fuel_left (suits_shared stop event fits) in
      omega (arith, left, makes_more half.thread.program half.thread.fuel half.thread.number event s, ap (λ (x : Standing). x.state.made) gone.thread, ap (λ (x : Standing). x.fuel) gone.thread)

  pub off : result ≡ told.Off → following old log t ≡ Err half.place
  off is =
      let k = is_more (fuel - s.made) going.n going.enough in
      going.whole
      ∙ ap (λ n. events_before going.so_far (follow_from p fuel t log n half.place (turns_in half) s)) k.1
      ∙ ap (events_before going.so_far) (turn_of p fuel t log half.place (turns_in half) s stop next k.0 Off stands_there is_next (met_is _ told.Off is meets))

  pub over : result ≡ told.Over → IsOver old half log t before sofar
  over is =
      record {
        followed = record { events = going.so_far ++ []; thread = stopped s };
        is_followed = going.whole
            ∙ ap (events_before going.so_far) (over_at p fuel t log half.place (turns_in half) s stop next going.n stands_there is_next (met_is _ told.Over is meets));
        traces = going.traces ∙ ap (with_events before t) (sym (append-nil going.so_far));
        thread = refl;
      }

-- at the start no event was made
pub begins : (f : Follower) (log : List LogEntry) (t : ℕ) (traces : TraceLists) → f.thread.number ≡ t → f.place ≡ 0 → length (events_of traces t) ≤ f.thread.state.made → Going f f log t traces traces
begins f log t traces which place few = record {
  is_thread = record { program = refl; fuel_is = refl; which = which };
  place = omega (arith, place);
  low = omega (arith, place);
  n = f.thread.fuel + 1;
  enough = omega arith;
  so_far = [];
  traces = with_nothing traces t;
  few = omega (arith, few);
  whole = before_nothing _;
}

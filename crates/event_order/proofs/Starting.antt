-- Extensions are runs: what was followed is what the machine does along any of them.
use Rattle.std.proofs.Common.{◌≡◌, ℕ, zero, suc, ◌+◌, ◌<◌, ◌≤◌, false, List, [], ◌∷◌, Option, Some, None, Result, Ok, Err, length, map, get_or, refl, sym, ◌∙◌, ap, subst, inl, inr, arith}
use Rattle.std.proofs.lemmas.Bool.{true≢false, cases_lt}
use Rattle.std.proofs.lemmas.List.{get_or_past, length-map, same_lists}
use Rattle.std.proofs.Math.ListN.{get_or-map}
use Rattle.std.proofs.lemmas.List.FromFn.{get_or-map-range_with_len, length-map-range_with_len}
use Rattle.std.proofs.lemmas.Option.{get_or_from_slice_get, slice_get-get_or, slice_get-map, slice_get_within}
use Rattle.std.specs.Prelude.{slice_get, unwrap_or}
use Rattle.std.specs.Option.{option_and_then, option_map}
use Rattle.stride_isa.specs.Listing.{Listing, start_of}
use Rattle.sc_machine.specs.ThreadStep.{Thread, settled, start_thread}
use Rattle.sc_machine.specs.Machine.{Machine, thread_at}
use Rattle.sc_machine.specs.Schedule.{finished, ready, stopped}
use Rattle.sc_machine.specs.Laws.{MadeAlongTurns, StartsSettle, TurnByStop}
use Rattle.interleavings.specs.declared.event.Event.{Event}
use Rattle.interleavings.specs.declared.event.Event.TheVariants as events
use Rattle.interleavings.specs.declared.event.LogEntry.{LogEntry}
use Rattle.interleavings.specs.declared.traces.Place.{Place}
use Rattle.interleavings.specs.Events.{TurnOf, entered_by, left_by}
use Rattle.interleavings.specs.Following.{Divergence, Followed, follow, follow_all, follow_all_from, no_turns, thread_before}
use Rattle.interleavings.specs.Laws.{ExitsEndEnters, FollowedWalks, IsWalk}
use Rattle.interleavings.specs.RunEvents.{no_counts, run_events}
use Rattle.interleavings.specs.TraceLists.{IsInRange, TraceLists, events_of}
use Rattle.interleavings.specs.Walking.{Walks}
use Rattle.linkage.specs.declared.link_error.LinkError.{LinkError}
use Rattle.linkage.specs.Links.{IsLinked}
use Rattle.linkage.specs.Refusals.{IsRefused}
use Rattle.linkage.specs.Sources.{event_at}
use Rattle.event_order.specs.DirectOrder.{EntersAt, LeavesAt, LinkRows}
use Rattle.event_order.specs.Extensions.{IsExtension, schedule_of}
use Rattle.event_order.specs.Laws.{AreInRange, RunsAsFollowed, traces_of}
use Rattle.event_order.proofs.Fits.{World}
use Rattle.event_order.proofs.Fitting.{extension-fits}
use Rattle.event_order.proofs.Running.{IsAt, Leads, fitting-leads}
use Rattle.event_order.proofs.Standing.{IsBegun, IsSound, IsStanding, cell_there}
use Rattle.event_order.proofs.Standing as holds
use Rattle.event_order.proofs.Unique.{one_enter, one_write}

-- the threads from a number on were followed one by one
record FollowedEach (p : Listing) (fuel t threads : ℕ) (all : List Followed) : Type 0 where
  count : length all ≡ threads
  each : (i : ℕ) (f : Followed) → slice_get all i ≡ Some f → (log : List LogEntry) × (follow p fuel (t + i) log ≡ Ok f)

-- the first of them, before the others
one_before : (p : Listing) (fuel t threads : ℕ) (log : List LogEntry) (first : Result Followed ℕ) (others : Result (List Followed) Divergence) (all : List Followed) → first ≡ follow p fuel t log → ((rest : List Followed) → others ≡ Ok rest → FollowedEach p fuel (t + 1) threads rest) → thread_before t first others ≡ Ok all → FollowedEach p fuel t (suc threads) all
one_before p fuel t threads log (Err place) (Ok rest) all is each before = absurd cc
one_before p fuel t threads log (Err place) (Err divergence) all is each before = absurd cc
one_before p fuel t threads log (Ok first) (Err divergence) all is each before = absurd cc
one_before p fuel t threads log (Ok first) (Ok rest) all is each before =
    let known : FollowedEach p fuel (t + 1) threads rest = each rest refl in
    let whole : first ∷ rest ≡ all = cc in
    subst (FollowedEach p fuel t (suc threads)) whole (record {
      count = ap suc known.count;
      each = each_of known;
    })
  where
    each_of : FollowedEach p fuel (t + 1) threads rest → (i : ℕ) (f : Followed) → slice_get (first ∷ rest) i ≡ Some f → (found : List LogEntry) × (follow p fuel (t + i) found ≡ Ok f)
    each_of known zero f found =
        let same : first ≡ f = cc in
        let place : t ≡ t + 0 = omega arith in
        (log, ap (λ n. follow p fuel n log) (sym place) ∙ (sym is ∙ ap Ok same))
    each_of known (suc i) f found =
        let later = known.each i f found in
        let place : t + suc i ≡ t + 1 + i = omega arith in
        (later.0, ap (λ n. follow p fuel n later.0) place ∙ later.1)

-- all of them
followed_each : (p : Listing) (fuel t threads : ℕ) (logs : List (List LogEntry)) (all : List Followed) → follow_all_from p fuel t threads logs ≡ Ok all → FollowedEach p fuel t threads all
unfolding follow_all_from
followed_each p fuel t zero [] all is = let none : [] ≡ all = cc in subst (FollowedEach p fuel t 0) none (record { count = refl; each = λ i f found. absurd cc })
followed_each p fuel t zero (log ∷ logs) all is = absurd cc
followed_each p fuel t (suc threads) [] all is = absurd cc
followed_each p fuel t (suc threads) (log ∷ logs) all is =
    one_before p fuel t threads log (follow p fuel t log) (follow_all_from p fuel (t + 1) threads logs) all refl (λ rest. followed_each p fuel (t + 1) threads logs rest) is

-- a thread that was followed: its last state, to which it goes from its start by its events
record IsGone (p : Listing) (fuel t : ℕ) (f : Followed) (last : Thread) : Type 0 where
  walk : IsWalk p fuel t f.events last
  left : f.thread ≡ stopped last

-- a turn that is begun is of a monitor that is there
monitor_there : (traces : TraceLists) → AreInRange traces → (at : Place) (begun : TurnOf) → EntersAt traces at begun → begun.monitor < traces.monitors
monitor_there traces range at begun is = of_event (event_at traces at) (range at) is
  where
    of_event : (found : Option Event) → ((event : Event) → found ≡ Some event → IsInRange traces event) → option_and_then entered_by found ≡ Some begun → begun.monitor < traces.monitors
    of_event (Some (events.Enter monitor turn)) range is = subst (λ (m : ℕ). m < traces.monitors) (ap (λ (o : Option TurnOf). (unwrap_or o begun).monitor) is) (range (events.Enter monitor turn) refl)
    of_event found range is = absurd cc

-- what has happened at the start
abbrev at_start : Listing → World
at_start p = record { cells = start_of p; holders = λ monitor. None; counts = no_counts }

module _ (p : Listing) (fuel : ℕ) (logs : List (List LogEntry)) (all : List Followed) (links : LinkRows) (some : 1 ≤ fuel) (is : follow_all p fuel logs ≡ Ok all) (fits : (refusal : LinkError) → IsRefused (traces_of p all) refusal → ⊥) (range : AreInRange (traces_of p all)) (linked : IsLinked (traces_of p all) links) (followed_walks : FollowedWalks) (exits_end : ExitsEndEnters) where
  -- the events
  abbrev traces : TraceLists
  traces = traces_of p all

  -- each thread was followed
  followed : FollowedEach p fuel 0 (length p.threads) all
  unfolding follow_all
  followed = followed_each p fuel 0 (length p.threads) logs all is

  -- a thread that isn't there
  abbrev none_followed : Followed
  none_followed = record { events = []; thread = start_thread }

  -- the state to which a thread goes by its events
  gone : (t : ℕ) → (last : Thread) × ((f : Followed) → slice_get all t ≡ Some f → IsGone p fuel t f last)
  gone t = elim (cases_lt t (length all)) [
    | inl small ↦
        let first : Followed = get_or all t none_followed in
        let first_is : slice_get all t ≡ Some first = slice_get-get_or all t none_followed small in
        let log = followed.each t first first_is in
        let place : 0 + t ≡ t = omega arith in
        let walked = followed_walks p fuel t log.0 first some (ap (λ n. follow p fuel n log.0) (sym place) ∙ log.1) in
        (walked.0, λ f found. let same : first ≡ f = (let both : Some first ≡ Some f = sym first_is ∙ found in cc) in subst (λ (g : Followed). IsGone p fuel t g walked.0) same (record { walk = walked.1; left = walked.2 }))
    | inr large ↦ (start_thread, λ f found. absurd (let small : t < length all = slice_get_within all t f found in omega arith))
  ]

  -- the events of a thread that was followed
  events_are : (t : ℕ) (f : Followed) → slice_get all t ≡ Some f → events_of traces t ≡ f.events
  events_are t f found = get_or-map (λ (g : Followed). g.events) all t none_followed ∙ ap (λ (g : Followed). g.events) (get_or_from_slice_get all t f none_followed found)

  -- nobody else has events
  no_events_past : (t : ℕ) → length all ≤ t → events_of traces t ≡ []
  no_events_past t large = get_or_past (map (λ (g : Followed). g.events) all) t [] (rw length-map large)

  -- each exit ends a turn that was begun
  exits_begun : (at : Place) (turn : TurnOf) → LeavesAt traces at turn → IsBegun traces at turn
  exits_begun at turn leaves = elim (cases_lt at.thread (length all)) [
    | inr large ↦ absurd (let wrong : None ≡ Some turn = ap (λ es. option_and_then left_by (slice_get es at.place)) (sym (no_events_past at.thread large)) ∙ leaves in cc)
    | inl small ↦
        let first : Followed = get_or all at.thread none_followed in
        let first_is : slice_get all at.thread ≡ Some first = slice_get-get_or all at.thread none_followed small in
        let same : events_of traces at.thread ≡ first.events = events_are at.thread first first_is in
        let known = (gone at.thread).1 first first_is in
        let ends = exits_end p fuel at.thread first.events (gone at.thread).0 known.walk at.place turn.monitor turn.turn (ap (λ es. option_and_then left_by (slice_get es at.place)) (sym same) ∙ leaves) in
        record {
          begun = record { thread = at.thread; place = ends.begun };
          thread = refl;
          before = ends.before;
          enters = ap (λ es. option_and_then entered_by (slice_get es ends.begun)) same ∙ ends.entered;
        }
  ]

  -- what is known of the events
  sound : IsSound traces links
  sound = record { fits = fits; range = range; linked = linked; exits = exits_begun }

  -- before the first event nothing stands
  standing_first : IsStanding traces links (λ t. 0) (λ at. false) (at_start p)
  standing_first = record {
    front = λ at up. absurd (true≢false (sym up));
    fronts = λ at small. absurd (omega arith);
    within = λ t. omega arith;
    closed = λ at other before up. absurd (true≢false (sym up));
    writes = record {
      stand = λ at write found up. absurd (true≢false (sym up));
      below = λ at write found small. absurd (
          let zero_is : write.number ≡ 0 = omega arith in
          let start : slice_get traces.starts write.cell ≡ Some (get_or traces.starts write.cell 0) = slice_get-get_or traces.starts write.cell 0 (cell_there traces range at write found) in
          let both : None ≡ Some at = one_write traces fits None (Some at) write.cell write.number (get_or traces.starts write.cell 0) write.value (zero_is, start) found in
          cc);
    };
    cells = λ cell inside. (None, (refl, slice_get-get_or traces.starts cell 0 inside));
    enters = record {
      stand = λ at begun found up. absurd (true≢false (sym up));
      below = λ at begun found small. absurd (
          let zero_is : begun.turn ≡ 0 = omega arith in
          let both : None ≡ Some at = one_enter traces fits None (Some at) begun.monitor begun.turn (zero_is, monitor_there traces range at begun found) found in
          cc);
    };
    holding = λ monitor. holds.never refl refl;
  }

  module _ (starts_settle : StartsSettle) (made_along : MadeAlongTurns) (turn_by_stop : TurnByStop) (places : List Place) (extension : IsExtension traces links places) where
    -- the thread after its local start
    started_is : (t : ℕ) → t < length p.threads → thread_at (ready p fuel) t ≡ settled p fuel t start_thread
    started_is t small =
        ap (λ (m : Machine). thread_at m t) (starts_settle p fuel)
        ∙ get_or-map-range_with_len (λ u. settled p fuel u start_thread) 0 (length p.threads) t t start_thread small (omega arith)

    -- how many threads have started
    started_count : length (ready p fuel).threads ≡ length p.threads
    started_count = ap (λ (m : Machine). length m.threads) (starts_settle p fuel) ∙ length-map-range_with_len (λ u. settled p fuel u start_thread) 0 (length p.threads)

    -- the machine is where nothing has happened
    at_first : IsAt p fuel (events_of traces) (λ t. (gone t).0) (λ t. 0) (λ t. no_turns) (at_start p) (ready p fuel)
    at_first = record {
      cells = ap (λ (m : Machine). m.cells) (starts_settle p fuel);
      holders = ap (λ (m : Machine). m.holders) (starts_settle p fuel);
      walks = λ t small.
          let inside : t < length p.threads = subst (λ (n : ℕ). t < n) started_count small in
          let there : t < length all = subst (λ (n : ℕ). t < n) (sym followed.count) inside in
          let first : Followed = get_or all t none_followed in
          let first_is : slice_get all t ≡ Some first = slice_get-get_or all t none_followed there in
          let known = (gone t).1 first first_is in
          subst (λ (es : List Event). Walks p fuel t es no_turns (thread_at (ready p fuel) t) (gone t).0) (sym (events_are t first first_is))
          (subst (λ (s : Thread). Walks p fuel t first.events no_turns s (gone t).0) (sym (started_is t inside)) known.walk.walks);
      nobody = λ t large. no_events_past t (subst (λ (n : ℕ). n ≤ t) (started_count ∙ sym followed.count) large);
    }

    -- the turns of the extension
    leads : Leads p fuel (events_of traces) (λ t. (gone t).0) (λ t. 0) (at_start p) (schedule_of places) (ready p fuel)
    leads = fitting-leads p fuel (events_of traces) (λ t. (gone t).0) turn_by_stop (schedule_of places) (λ t. 0) (λ t. no_turns) (at_start p) (ready p fuel) at_first
        (extension-fits traces links sound places (λ t. 0) (λ at. false) (at_start p) standing_first extension)

    -- how each thread is left
    left_is : (k : ℕ) (d : Thread) → k < length (map stopped leads.machine.threads) → get_or (map stopped leads.machine.threads) k d ≡ get_or (map (λ (f : Followed). f.thread) all) k d
    left_is k d small =
        let inside : k < length leads.machine.threads = subst (λ (n : ℕ). k < n) (length-map leads.machine.threads stopped) small in
        let here : k < length (ready p fuel).threads = subst (λ (n : ℕ). k < n) leads.count inside in
        let there : k < length all = subst (λ (n : ℕ). k < n) (started_count ∙ sym followed.count) here in
        let first : Followed = get_or all k none_followed in
        let first_is : slice_get all k ≡ Some first = slice_get-get_or all k none_followed there in
        let known = (gone k).1 first first_is in
        let state : slice_get leads.machine.threads k ≡ Some (gone k).0 = slice_get-get_or leads.machine.threads k start_thread inside ∙ ap (λ s. Some s) (leads.threads k here) in
        get_or_from_slice_get (map stopped leads.machine.threads) k (stopped (gone k).0) d (slice_get-map stopped leads.machine.threads k ∙ ap (option_map stopped) state)
        ∙ (sym known.left ∙ sym (get_or_from_slice_get (map (λ (f : Followed). f.thread) all) k first.thread d (slice_get-map (λ (f : Followed). f.thread) all k ∙ ap (option_map (λ (f : Followed). f.thread)) first_is)))

    -- the extension is a run
    pub extension-runs : RunsAsFollowed p fuel all (schedule_of places)
    unfolding run_events
    extension-runs = record {
      machine = finished leads.machine;
      runs = (made_along p fuel (schedule_of places) leads.machine leads.made).1;
      threads = same_lists (map stopped leads.machine.threads) (map (λ (f : Followed). f.thread) all) (length-map leads.machine.threads stopped ∙ (leads.count ∙ (started_count ∙ (sym followed.count ∙ sym (length-map all (λ (f : Followed). f.thread)))))) left_is;
      events = leads.told;
    }

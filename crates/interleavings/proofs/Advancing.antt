-- An advance of the simulation is one of the run that it shows.
use Rattle.std.proofs.Common.{◌≡◌, ℕ, ◌+◌, ◌<◌, ◌≤◌, ◌∙◌, ◌*◌, ◌/◌, ◌==◌, inl, inr, Bool, true, false, List, ◌∷◌, length, map, sym, ap, subst, arith, get_or, set, Option, Some, None}
use Rattle.std.specs.Vec.{with_item}
use Rattle.std.proofs.lemmas.Bool.Decides.{eqb_tells}
use Rattle.std.proofs.lemmas.List.{get_or-map, get_or-set_same, get_or-set_other, get_or_default, length-set, map-set}
use Rattle.stride_isa.specs.Listing.{Listing, cell_count, starts_of}
use Rattle.sc_machine.specs.declared.stop.Stop.{Stop}
use Rattle.sc_machine.specs.declared.stop.Stop.TheVariants as stops
use Rattle.sc_machine.specs.StandingThread.{IsThreadOf, Standing, stop_here}
use Rattle.sc_machine.specs.ThreadStep.{start_thread, stop_of}
use Rattle.sc_machine.specs.ThreadRun.{IsShared, NamesCell}
use Rattle.interleavings.specs.declared.limits.TheConstants.{STEP_LIMIT}
use Rattle.interleavings.specs.declared.activity.Activity.{Activity}
use Rattle.interleavings.specs.declared.activity.HeldTurn.{HeldTurn}
use Rattle.interleavings.specs.declared.activity.OddLooks.{OddLooks}
use Rattle.interleavings.specs.declared.activity.Phase.{Phase}
use Rattle.interleavings.specs.declared.activity.Phase.TheVariants.{Idle, Loaded, Numbered, Marked, Fetched, Stored, Looked}
use Rattle.interleavings.specs.declared.core_state.Core.{Core}
use Rattle.interleavings.specs.declared.simulation.Simulation.{Simulation}
use Rattle.interleavings.specs.declared.event.Event.{Event}
use Rattle.interleavings.specs.declared.step_words.AtomicStep.{AtomicStep}
use Rattle.interleavings.specs.AtomicStep.{word_of, is_even, read_if, entered_if, finished_by}
use Rattle.interleavings.specs.CoreShows.{ShowsState, HasSameShape, CanHappen, step_seen}
use Rattle.interleavings.specs.SimulationShows.{IsReached, Shows, SuitsStop, gone_on}
use Rattle.interleavings.specs.History.{State, Step, happens, after}
use Rattle.interleavings.specs.declared.layout.Layout.{Layout}
use Rattle.interleavings.specs.Layout.{IsInRow, row_length}
use Rattle.interleavings.specs.Recording.{Setting, state_of, activity_of}
use Rattle.interleavings.specs.Driving.{Drive, thread_of, next_step, at_of, finished_in, thread_after, stepped, stepped_if, advance}
use Rattle.interleavings.proofs.Advances.{IsRun}
use Rattle.interleavings.proofs.InPlace.{IsPhaseAt}
use Rattle.interleavings.proofs.NextSteps.{kind_at, step_at, chosen}
use Rattle.interleavings.proofs.Reaching.{reached-run}
use Rattle.interleavings.proofs.Within.{after_within, state_wider}

-- the word of a thread's next step lies in the row
named_inside : (p : Listing) (stop : Stop) (phase : Phase) → NamesCell p stop → IsInRow (cell_count p.decls) (length p.monitors) (word_of (kind_at stop phase) (at_of stop))
named_inside p (stops.Read cell) (Loaded at value) named = named.0
named_inside p (stops.Read cell) phase named = named.0
named_inside p (stops.Write cell value) (Numbered at n) named = named.0
named_inside p (stops.Write cell value) (Marked at n) named = named.0
named_inside p (stops.Write cell value) (Fetched at n old) named = named.0
named_inside p (stops.Write cell value) (Stored at n old word) named = named.0
named_inside p (stops.Write cell value) phase named = named.0
named_inside p (stops.Update cell change) (Numbered at n) named = named.0
named_inside p (stops.Update cell change) (Marked at n) named = named.0
named_inside p (stops.Update cell change) (Fetched at n old) named = named.0
named_inside p (stops.Update cell change) (Stored at n old word) named = named.0
named_inside p (stops.Update cell change) phase named = named.0
named_inside p (stops.Enter monitor) (Looked at turn) named = named.0
named_inside p (stops.Enter monitor) phase named = named.0
named_inside p (stops.Exit monitor) phase named = named.0
named_inside p (stops.Ended end) phase named = tt

-- a read that finishes gives a word
read_suits : (even : Bool) (cell at value bound : ℕ) → SuitsStop (stops.Read cell) (read_if even (Loaded at value) bound)
read_suits true cell at value bound = tt
read_suits false cell at value bound = tt

-- an entry gives none
entry_suits : (was_free : Bool) (at monitor turn : ℕ) → SuitsStop (stops.Enter at) (entered_if was_free monitor turn)
entry_suits true at monitor turn = tt
entry_suits false at monitor turn = tt

-- what a step finishes gives a word exactly where the instruction takes one
step_suits : (stop : Stop) (name : Option ℕ) (phase : Phase) (done : List Event) (held : List HeldTurn) (looks : Option OddLooks) (met : ℕ) → IsShared stop → IsPhaseAt phase stop → SuitsStop stop (finished_by (kind_at stop phase) (at_of stop) (record { name = name; phase = phase; events = done; held = held; looks = looks }) met)
step_suits (stops.Read cell) name Idle done held looks met shared fits = tt
step_suits (stops.Read cell) name (Loaded at value) done held looks met shared fits = read_suits (is_even met) cell at value (met / 2)
step_suits (stops.Write cell value) name Idle done held looks met shared fits = tt
step_suits (stops.Write cell value) name (Numbered at n) done held looks met shared fits = tt
step_suits (stops.Write cell value) name (Marked at n) done held looks met shared fits = tt
step_suits (stops.Write cell value) name (Stored at n None word) done held looks met shared fits = tt
step_suits (stops.Write cell value) name (Stored at n (Some old) word) done held looks met shared fits = absurd fits.1
step_suits (stops.Update cell change) name Idle done held looks met shared fits = tt
step_suits (stops.Update cell change) name (Numbered at n) done held looks met shared fits = tt
step_suits (stops.Update cell change) name (Marked at n) done held looks met shared fits = tt
step_suits (stops.Update cell change) name (Fetched at n old) done held looks met shared fits = tt
step_suits (stops.Update cell change) name (Stored at n None word) done held looks met shared fits = absurd fits.1
step_suits (stops.Update cell change) name (Stored at n (Some old) word) done held looks met shared fits = tt
step_suits (stops.Enter monitor) name Idle done held looks met shared fits = tt
step_suits (stops.Enter monitor) name (Looked at turn) done held looks met shared fits = entry_suits (met == 2 * turn) monitor monitor (turn + 1)
step_suits (stops.Exit monitor) name Idle done held looks met shared fits = tt
step_suits (stops.Ended end) name phase done held looks met shared fits = absurd shared
step_suits stop name phase done held looks met shared fits = absurd fits

-- a step that is chosen is the next one of a thread at a shared instruction
chosen_tells : (t : ℕ) (stop : Stop) (phase : Phase) (step : Step) → Some step ≡ next_step t stop phase → IsShared stop × (step ≡ step_at t stop phase)
chosen_tells t (stops.Ended end) phase step e = cc
chosen_tells t (stops.Read cell) phase step e = (tt, cc)
chosen_tells t (stops.Write cell value) phase step e = (tt, cc)
chosen_tells t (stops.Update cell change) phase step e = (tt, cc)
chosen_tells t (stops.Enter monitor) phase step e = (tt, cc)
chosen_tells t (stops.Exit monitor) phase step e = (tt, cc)

module _ (g : Setting) (sim : Simulation) (d : Drive) (t : ℕ) (old : Standing) (shows : Shows g sim d) (there : t < length sim.threads.items) (whose : old ≡ get_or sim.threads.items t old) where
  is_thread : IsThreadOf g.program g.fuel t old
  is_thread = subst (λ (s : Standing). IsThreadOf g.program g.fuel t s) (sym whose) (shows.each t old there)

  thread_at : thread_of d t ≡ old.state
  thread_at =
      ap (λ threads. get_or threads t start_thread) shows.threads
      ∙ get_or-map (λ (s : Standing). s.state) sim.threads.items t old start_thread there
      ∙ ap (λ (s : Standing). s.state) (sym whose)

  -- it stands where the run says
  pub stop_at : stop_of g.program t (thread_of d t) ≡ stop_here old
  stop_at =
      ap (λ s. stop_of g.program t s) thread_at
      ∙ sym (ap (λ p. stop_of p old.number old.state) is_thread.program ∙ ap (λ n. stop_of g.program n old.state) is_thread.which)

  pub activity_at : (activity : Activity) → activity ≡ get_or sim.core.people.items t activity → activity ≡ activity_of g d.steps t
  activity_at activity e = e ∙ shows.state.people t activity (omega (arith, shows.people, shows.count, there))

  -- where no step is chosen the run stays
  pub ended_shown : (activity : Activity) (stop : Stop) → activity ≡ get_or sim.core.people.items t activity → stop ≡ stop_here old → None ≡ next_step t stop activity.phase → Shows g sim (advance g t d)
  unfolding advance
  ended_shown activity stop of_t is none = subst (λ (k : Drive). Shows g sim k) (sym (ap (λ s. stepped_if g (next_step t s (activity_of g d.steps t).phase) d) (stop_at ∙ sym is) ∙ ap (λ (a : Activity). stepped_if g (next_step t stop a.phase) d) (sym (activity_at activity of_t)) ∙ ap (λ o. stepped_if g o d) (sym none))) shows

  pub may_happen : (activity : Activity) (stop : Stop) (step : AtomicStep) → activity ≡ get_or sim.core.people.items t activity → NamesCell old.program stop → Some (step_seen step) ≡ next_step t stop activity.phase → length d.steps + 1 ≤ STEP_LIMIT → CanHappen sim.core step
  may_happen activity stop step of_t names chosen few =
      let seen = (chosen_tells t stop activity.phase (step_seen step) chosen).1 in
      record {
        whole = shows.whole;
        who = omega (arith, ap (λ (s : Step). s.who) seen, shows.people, shows.count, there);
        inside = subst (λ (s : Step). IsInRow sim.core.layout.cells sim.core.layout.monitors (word_of s.kind s.at)) (sym seen)
            (subst (λ (n : ℕ). IsInRow sim.core.layout.cells n (word_of (kind_at stop activity.phase) (at_of stop))) (sym shows.monitors)
            (subst (λ (n : ℕ). IsInRow n (length g.program.monitors) (word_of (kind_at stop activity.phase) (at_of stop))) (sym shows.cells)
            (named_inside g.program stop activity.phase (subst (λ (p : Listing). NamesCell p stop) is_thread.program names))));
        state = state_of g d.steps;
        shows = shows.state;
        within = state_wider (state_of g d.steps) (length d.steps) STEP_LIMIT (omega arith) (after_within (starts_of g.program.decls) d.steps);
      }

  -- the step that is chosen finishes what the thread's instruction takes
  pub may_go_on : (activity : Activity) (stop : Stop) (step : AtomicStep) (finished : Option Event) → IsReached g d → activity ≡ get_or sim.core.people.items t activity → stop ≡ stop_here old → Some (step_seen step) ≡ next_step t stop activity.phase → finished ≡ finished_in (state_of g d.steps) (step_seen step) → SuitsStop (stop_here old) finished
  may_go_on activity stop step finished reached of_t stands chosen is =
      let told = chosen_tells t stop activity.phase (step_seen step) chosen in
      let a = activity_of g d.steps t in
      let here : stop_of g.program t (thread_of d t) ≡ stop = stop_at ∙ sym stands in
      let run : IsRun g d = reached-run g d reached in
      let fits : IsPhaseAt a.phase stop = subst (λ (x : Stop). IsPhaseAt a.phase x) here (run.in_place t (omega (arith, there, shows.count))).fits in
      let next : step_seen step ≡ step_at t stop a.phase = told.1 ∙ ap (λ (x : Activity). step_at t stop x.phase) (activity_at activity of_t) in
      subst (λ (x : Stop). SuitsStop x finished) stands
      (subst (λ (e : Option Event). SuitsStop stop e) (sym (is ∙ ap (finished_in (state_of g d.steps)) next))
      (step_suits stop a.name a.phase a.events a.held a.looks _ told.0 fits))

  module _ (activity activity' : Activity) (stop : Stop) (step : AtomicStep) (core' : Core) (finished : Option Event) (new : Standing) where
    abbrev sim' : Simulation
    sim' = record { program = sim.program; fuel = sim.fuel; patience = sim.patience; threads = with_item sim.threads t new; core = core' }

    -- the step is the next one of the thread
    abbrev st : State
    st = state_of g d.steps

    abbrev next : Step
    next = step_at t stop (activity_of g d.steps t).phase

    seen_next : activity ≡ get_or sim.core.people.items t activity → Some (step_seen step) ≡ next_step t stop activity.phase → step_seen step ≡ next
    seen_next of_t chosen = (chosen_tells t stop activity.phase (step_seen step) chosen).1 ∙ ap (λ (a : Activity). step_at t stop a.phase) (activity_at activity of_t)

    went_thread : finished ≡ finished_in st next → activity'.looks ≡ (activity_of g (next ∷ d.steps) t).looks → new ≡ gone_on old finished sim.patience activity'.looks → new.state ≡ thread_after g t (finished_in st next) (activity_of g (next ∷ d.steps) t).looks (thread_of d t)
    went_thread finished_is looks_is goes =
        ap (λ (s : Standing). s.state) goes
        ∙ ap (λ p. thread_after (record { program = p; fuel = old.fuel; patience = sim.patience }) old.number finished activity'.looks old.state) is_thread.program
        ∙ ap (λ f. thread_after (record { program = g.program; fuel = f; patience = sim.patience }) old.number finished activity'.looks old.state) is_thread.fuel_is
        ∙ ap (λ n. thread_after (record { program = g.program; fuel = g.fuel; patience = n }) old.number finished activity'.looks old.state) shows.patience
        ∙ ap (λ k. thread_after g k finished activity'.looks old.state) is_thread.which
        ∙ ap (λ f. thread_after g t f activity'.looks old.state) finished_is
        ∙ ap (λ row. thread_after g t (finished_in st next) row old.state) looks_is
        ∙ ap (thread_after g t (finished_in st next) (activity_of g (next ∷ d.steps) t).looks) (sym thread_at)

    -- it is the same thread
    new_thread : new ≡ gone_on old finished sim.patience activity'.looks → IsThreadOf g.program g.fuel t new
    new_thread goes = record {
      program = ap (λ (s : Standing). s.program) goes ∙ is_thread.program;
      fuel_is = ap (λ (s : Standing). s.fuel) goes ∙ is_thread.fuel_is;
      which = ap (λ (s : Standing). s.number) goes ∙ is_thread.which;
    }

    each_thread : IsThreadOf g.program g.fuel t new → (k : ℕ) (r : Standing) → k < length (set sim.threads.items t new) → IsThreadOf g.program g.fuel k (get_or (set sim.threads.items t new) k r)
    each_thread is k r below = elim (eqb_tells k t) [
      | inl same ↦
          let e : k ≡ t = same.1 in
          let here : get_or (set sim.threads.items t new) k r ≡ new = ap (λ n. get_or (set sim.threads.items t new) n r) e ∙ get_or-set_same sim.threads.items t new r there in
          subst (λ (n : ℕ). IsThreadOf g.program g.fuel n (get_or (set sim.threads.items t new) k r)) (sym e) (subst (λ (q : Standing). IsThreadOf g.program g.fuel t q) (sym here) is)
      | inr other ↦
          let away : get_or (set sim.threads.items t new) k r ≡ get_or sim.threads.items k r = get_or-set_other sim.threads.items t k new r other.1 in
          subst (λ (q : Standing). IsThreadOf g.program g.fuel k q) (sym away) (shows.each k r (omega (arith, length-set sim.threads.items t new)))
    ]

    shape_shown : ShowsState core' (state_of g (next ∷ d.steps)) → HasSameShape sim.core core' → IsThreadOf g.program g.fuel t new → new.state ≡ thread_after g t (finished_in st next) (activity_of g (next ∷ d.steps) t).looks (thread_of d t) → Shows g sim' (stepped g next d)
    shape_shown shown shape is thread = record {
      program = shows.program;
      fuel = shows.fuel;
      patience = shows.patience;
      few = shows.few;
      count = length-set sim.threads.items t new ∙ shows.count;
      each = each_thread is;
      threads = ap (λ threads. set threads t (thread_after g t (finished_in st next) (activity_of g (next ∷ d.steps) t).looks (thread_of d t))) shows.threads
          ∙ ap (set (map (λ (s : Standing). s.state) sim.threads.items) t) (sym thread)
          ∙ sym (map-set (λ (s : Standing). s.state) sim.threads.items t new);
      whole = shape.words ∙ shows.whole ∙ sym (ap (λ (l : Layout). row_length l.cells l.monitors) shape.layout);
      cells = ap (λ (l : Layout). l.cells) shape.layout ∙ shows.cells;
      monitors = ap (λ (l : Layout). l.monitors) shape.layout ∙ shows.monitors;
      people = shape.people ∙ shows.people;
      state = shown;
    }

    pub advanced : activity ≡ get_or sim.core.people.items t activity → stop ≡ stop_here old → Some (step_seen step) ≡ next_step t stop activity.phase → HasSameShape sim.core core' → ShowsState core' (happens (step_seen step) st) → finished ≡ finished_in st (step_seen step) → activity' ≡ get_or core'.people.items t activity' → new ≡ gone_on old finished sim.patience activity'.looks → Shows g sim' (advance g t d)
    unfolding advance after
    advanced of_t stands seen shape state finished_is of_t' goes =
        let same : step_seen step ≡ next = seen_next of_t seen in
        let state' : ShowsState core' (state_of g (next ∷ d.steps)) = subst (λ (s : Step). ShowsState core' (happens s st)) same state in
        let looks : activity'.looks ≡ (activity_of g (next ∷ d.steps) t).looks = ap (λ (a : Activity). a.looks) (of_t' ∙ state'.people t activity' (omega (arith, shape.people, shows.people, shows.count, there))) in
        let thread = went_thread (finished_is ∙ ap (finished_in st) same) looks goes in
        let shared = (chosen_tells t stop activity.phase (step_seen step) seen).0 in
        subst (λ (k : Drive). Shows g sim' k) (sym (ap (λ s. stepped_if g (next_step t s (activity_of g d.steps t).phase) d) (stop_at ∙ sym stands) ∙ ap (λ o. stepped_if g o d) (chosen t stop (activity_of g d.steps t).phase shared))) (shape_shown state' shape (new_thread goes) thread)

-- two readings of one thread
pub same_thread : (threads : List Standing) (t : ℕ) (one other : Standing) → t < length threads → one ≡ get_or threads t one → other ≡ get_or threads t other → one ≡ other
same_thread threads t one other there e f = e ∙ get_or_default threads t one other there ∙ sym f

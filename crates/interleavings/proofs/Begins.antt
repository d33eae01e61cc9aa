-- The simulation at its start.
use Rattle.std.proofs.Common.{◌≡◌, ℕ, ◌+◌, ◌<◌, ◌≤◌, ◌∙◌, if◌then◌else◌, nat_lt, List, [], ◌∷◌, ◌++◌, length, map, slice_index, get_or, refl, sym, ap, subst, arith}
use Rattle.std.specs.List.{range_with_len}
use Rattle.std.proofs.lemmas.List.FromFn.{get_or-map-range_with_len, length-map-range_with_len, map-range_with_len_more}
use Rattle.stride_isa.specs.Limits.{thread_limit}
use Rattle.stride_isa.specs.Listing.{Listing, starts_of}
use Rattle.sc_machine.specs.StandingThread.{IsThreadOf, Standing, started_at}
use Rattle.sc_machine.specs.ThreadStep.{start_thread, settled}
use Rattle.interleavings.specs.declared.limits.TheConstants.{STEP_LIMIT}
use Rattle.interleavings.specs.declared.core_state.Core.{Core}
use Rattle.interleavings.specs.declared.simulation.Simulation.{Simulation}
use Rattle.interleavings.specs.declared.kind.Kind.TheVariants as by
use Rattle.interleavings.specs.declared.layout.Layout.{Layout}
use Rattle.interleavings.specs.AtomicStep.{SharedWord, Drawn, Value, Number, Monitor}
use Rattle.interleavings.specs.CoreShows.{ShowsState, HasSameShape, CanHappen}
use Rattle.interleavings.specs.SimulationShows.{CanDraw, IsStartCore, Shows}
use Rattle.interleavings.specs.History.{Step, State, after, happens}
use Rattle.interleavings.specs.Layout.{row_length}
use Rattle.interleavings.specs.Recording.{Setting}
use Rattle.interleavings.specs.Driving.{begun, draws}
use Rattle.interleavings.proofs.Going.{range_more, range_length}
use Rattle.interleavings.proofs.Within.{after_within, state_wider}

-- the words of which the first n cells have their starting values
abbrev pub first_words : ℕ → List ℕ → SharedWord → ℕ
first_words n starts Drawn = 0
first_words n starts (Value cell) = if nat_lt cell n then slice_index starts cell else 0
first_words n starts (Number cell) = 0
first_words n starts (Monitor monitor) = 0

-- the step by which a thread draws its name
abbrev draw : ℕ → Step
draw who = record { who = who; kind = by.Draw; at = 0; value = 0 }

draws_more : (ts : List ℕ) (t : ℕ) (steps : List Step) → draws (ts ++ t ∷ []) steps ≡ draw t ∷ draws ts steps
draws_more [] t steps = refl
draws_more (x ∷ ts) t steps = draws_more ts t (draw x ∷ steps)

pub draws_length : (ts : List ℕ) (steps : List Step) → length (draws ts steps) ≡ length ts + length steps
draws_length [] steps = omega arith
draws_length (t ∷ ts) steps = let more = draws_length ts (draw t ∷ steps) in omega (arith, more)

-- the state after the draws of the first threads
abbrev pub drawn_by : List ℕ → ℕ → State
drawn_by starts n = after starts (draws (range_with_len 0 n) [])

pub draw_more : (core : Core) (starts : List ℕ) (n : ℕ) → ShowsState core (happens (draw n) (drawn_by starts n)) → ShowsState core (drawn_by starts (n + 1))
unfolding after
draw_more core starts n shows =
    subst (λ (steps : List Step). ShowsState core (after starts steps)) (sym (ap (λ ts. draws ts []) (range_more n) ∙ draws_more (range_with_len 0 n) n [])) shows

pub can_draw : (core now : Core) (threads who : ℕ) → CanDraw core threads → HasSameShape core now → who < threads → ((starts : List ℕ) → ShowsState core (after starts []) → ShowsState now (drawn_by starts who)) → CanHappen now (record { who = who; kind = by.Draw; at = 0; value = 0 })
can_draw core now threads who can shape inside shows = record {
  whole = shape.words ∙ can.whole ∙ sym (ap (λ (l : Layout). row_length l.cells l.monitors) shape.layout);
  who = omega (arith, shape.people, can.people);
  inside = tt;
  state = drawn_by can.starts who;
  shows = shows can.starts can.shows;
  within = state_wider (drawn_by can.starts who) (length (draws (range_with_len 0 who) [])) STEP_LIMIT (omega (arith, draws_length (range_with_len 0 who) [], range_length 0 who, can.few)) (after_within can.starts (draws (range_with_len 0 who) []));
}

pub same_shape : (one two three : Core) → HasSameShape one two → HasSameShape two three → HasSameShape one three
same_shape one two three a b = record { layout = b.layout ∙ a.layout; words = b.words ∙ a.words; people = b.people ∙ a.people }

-- one more thread after its local start
pub threads_more : (p : Listing) (fuel n : ℕ) (threads threads' : List Standing) (thread : Standing) → threads' ≡ threads ++ thread ∷ [] → threads ≡ map (started_at p fuel) (range_with_len 0 n) → thread ≡ started_at p fuel n → threads' ≡ map (started_at p fuel) (range_with_len 0 (n + 1))
threads_more p fuel n threads threads' thread more are is =
    more
    ∙ ap (λ ts. ts ++ thread ∷ []) are
    ∙ ap (λ t. map (started_at p fuel) (range_with_len 0 n) ++ t ∷ []) is
    ∙ sym (map-range_with_len_more (started_at p fuel) 0 n n (omega arith))

-- each of them is the thread of its number
each_started : (p : Listing) (fuel n t : ℕ) (d : Standing) → t < n → IsThreadOf p fuel t (get_or (map (started_at p fuel) (range_with_len 0 n)) t d)
each_started p fuel n t d below = subst (λ (s : Standing). IsThreadOf p fuel t s) (sym (get_or-map-range_with_len (started_at p fuel) 0 n t t d below (omega arith))) (record { program = refl; fuel_is = refl; which = refl })

-- their states
started_states : (p : Listing) (fuel : ℕ) (ns : List ℕ) → map (λ t. settled p fuel t start_thread) ns ≡ map (λ (s : Standing). s.state) (map (started_at p fuel) ns)
started_states p fuel [] = refl
started_states p fuel (t ∷ ns) = ap (λ rest. settled p fuel t start_thread ∷ rest) (started_states p fuel ns)

-- what is fixed of a run
abbrev setting : Listing → ℕ → ℕ → Setting
setting p fuel patience = record { program = p; fuel = fuel; patience = patience }

pub start_draws : (p : Listing) (core : Core) (threads : ℕ) → IsStartCore p core → threads ≡ length p.threads → threads ≤ thread_limit → CanDraw core threads
unfolding after
start_draws p core threads start count few = record { whole = start.whole; people = start.people ∙ sym count; few = few; starts = starts_of p.decls; shows = start.shows }

length_started : (sim : Simulation) → sim.threads.items ≡ map (started_at sim.program.now sim.fuel) (range_with_len 0 (length sim.program.now.threads)) → length sim.threads.items ≡ length sim.program.now.threads
length_started sim started = ap length started ∙ length-map-range_with_len (started_at sim.program.now sim.fuel) 0 (length sim.program.now.threads)

pub simulation_begun : (sim : Simulation) (core : Core) (threads : ℕ) → IsStartCore sim.program.now core → threads ≡ length sim.program.now.threads → threads ≤ thread_limit → HasSameShape core sim.core → ((starts : List ℕ) → ShowsState core (after starts []) → ShowsState sim.core (drawn_by starts threads)) → sim.threads.items ≡ map (started_at sim.program.now sim.fuel) (range_with_len 0 (length sim.program.now.threads)) → Shows (setting sim.program.now sim.fuel sim.patience) sim (begun (setting sim.program.now sim.fuel sim.patience))
unfolding begun after
simulation_begun sim core threads start count few shape shows started = record {
  program = refl;
  fuel = refl;
  patience = refl;
  few = omega (arith, count, few);
  count = length_started sim started;
  each = λ t s below. subst (λ (xs : List Standing). IsThreadOf sim.program.now sim.fuel t (get_or xs t s)) (sym started) (each_started sim.program.now sim.fuel (length sim.program.now.threads) t s (omega (arith, length_started sim started)));
  threads = started_states sim.program.now sim.fuel (range_with_len 0 (length sim.program.now.threads)) ∙ sym (ap (map (λ (s : Standing). s.state)) started);
  whole = shape.words ∙ start.whole ∙ sym (ap (λ (l : Layout). row_length l.cells l.monitors) shape.layout);
  cells = ap (λ (l : Layout). l.cells) shape.layout ∙ start.cells;
  monitors = ap (λ (l : Layout). l.monitors) shape.layout ∙ start.monitors;
  people = shape.people ∙ start.people;
  state = subst (λ (n : ℕ). ShowsState sim.core (drawn_by (starts_of sim.program.now.decls) n)) count (shows (starts_of sim.program.now.decls) start.shows);
}

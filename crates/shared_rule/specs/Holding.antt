-- The rule over the shared words and all passes: what holds between any two steps.
use Rattle.std.specs.Prelude.{◌≡◌, ℕ, zero, suc, ◌+◌, ◌/◌, ◌<◌, ◌≤◌, Bool, true, false, List, [], ◌∷◌, length, count_by, sum_by, slice_index, Option, Some, None}
use mathlib.Core.Option.{some}
use lib.ListN.{get_elem?}
use Rattle.atomic_table.specs.Table.{State}
use Rattle.interleavings.specs.declared.activity.Activity.{Activity}
use Rattle.interleavings.specs.declared.activity.Phase.{Phase}
use Rattle.interleavings.specs.declared.activity.Phase.TheVariants.{Idle, Loaded, Numbered, Marked, Fetched, Stored, Looked}
use Rattle.interleavings.specs.declared.activity.Tally.{Tally}
use Rattle.interleavings.specs.declared.event.Event.{Event}
use Rattle.interleavings.specs.declared.event.Event.TheVariants.{Read, Write, Update, Enter, Exit}
use Rattle.interleavings.specs.AtomicStep.{SharedWord, Drawn, Number, IsIdle}
use Rattle.interleavings.specs.History as core
use Rattle.interleavings.specs.History.{Step, IsHistory, after, newcomer, greatest_seen}
use Rattle.interleavings.specs.Recording.{Among}
use Rattle.shared_rule.specs.declared.limits.TheConstants.{DRAW_LIMIT, EVENT_LIMIT}
use Rattle.shared_rule.specs.declared.view.View.{View}
use Rattle.shared_rule.specs.Lines.{index_of, width, IsThere}

-- the weight of a name, if there is one
abbrev pub weight_of : (ℕ → ℕ) → Option ℕ → ℕ
weight_of weigh None = 0
weight_of weigh (Some name) = weigh name

-- the weight of the names that were gathered
abbrev pub gathered_weight : (ℕ → ℕ) → List Activity → ℕ
gathered_weight weigh gathered = sum_by (λ g. weight_of weigh g.name) gathered

-- the weight of the names in a view: its own and those that were gathered
abbrev pub view_weight : (ℕ → ℕ) → View → ℕ
view_weight weigh v = weight_of weigh v.activity.name + gathered_weight weigh v.gathered

-- the weight of the names below a number
abbrev pub weight_below : (ℕ → ℕ) → ℕ → ℕ
weight_below weigh zero = 0
weight_below weigh (suc n) = weight_below weigh n + weigh n

-- whether an event ends with an entry of a log: all but an exit
abbrev pub is_entered : Event → Bool
is_entered (Read cell value bound) = true
is_entered (Write cell value number) = true
is_entered (Update cell old new number) = true
is_entered (Enter monitor turn) = true
is_entered (Exit monitor turn) = false

-- an event that is under way
abbrev pub under_way : Phase → ℕ
under_way Idle = 0
under_way (Loaded cell value) = 1
under_way (Numbered cell n) = 1
under_way (Marked cell n) = 1
under_way (Fetched cell n old) = 1
under_way (Stored cell n old value) = 1
under_way (Looked monitor turn) = 1

-- how many events were begun, exits apart
abbrev pub begun_events : Activity → ℕ
begun_events activity = count_by is_entered activity.events + under_way activity.phase

-- a pass with this name did what the thread of this number did; one without a name did nothing
abbrev pub IsOwn : core.State → Option ℕ → Activity → Tally → Type 0
IsOwn st None activity tally = (activity ≡ newcomer.activity) × (tally ≡ newcomer.tally)
IsOwn st (Some name) activity tally = (name < st.words Drawn) × ((st.people name).activity ≡ activity) × ((st.people name).tally ≡ tally)

-- what was gathered has a name, and is what the thread of this number did; it is at no shared instruction
abbrev pub IsGatheredAs : core.State → Option ℕ → Activity → Type 0
IsGatheredAs st None activity = ⊥
IsGatheredAs st (Some name) activity = (name < st.words Drawn) × ((st.people name).activity ≡ activity) × IsIdle activity.phase

-- each that was gathered
abbrev pub AreGathered : core.State → List Activity → Type 0
AreGathered st [] = Unit {0}
AreGathered st (g ∷ gathered) = IsGatheredAs st g.name g × AreGathered st gathered

-- what a pass knows fits what was done: its own thread, the threads that were gathered, and the numbers seen, none of which is
-- above the cell's
pub record Fits (starts : List ℕ) (st : core.State) (v : View) : Type 0 where
  pub starting : v.live ≡ true → v.starts ≡ starts
  pub own : IsOwn st v.activity.name v.activity v.tally
  pub rest : AreGathered st v.gathered
  pub seen : (cell : ℕ) → greatest_seen cell v.seen ≤ st.words (Number cell) / 2

-- some history of atomic steps has led from the starting values to the words and to what the passes have done: the thread of
-- number n is the one that drew name n. Each drawn name stands in exactly one place, as a pass's own or once among what was
-- gathered: however names are weighed, those in all views weigh what the drawn ones weigh
pub record Holds (starts : List ℕ) (s : State (Unit {0}) View) : Type 0 where
  pub steps : List Step
  pub lawful : IsHistory starts steps
  pub words : (word : SharedWord) → IsThere (length starts) word → slice_index s.words (index_of word) ≡ (after starts steps).words word
  pub wide : length s.words ≡ width (length starts)
  pub named : (s : Step) → Among s steps → s.who < (after starts steps).words Drawn
  pub once : (weigh : ℕ → ℕ) → sum_by (view_weight weigh) s.views ≡ weight_below weigh ((after starts steps).words Drawn)
  pub draws : sum_by (λ v. v.draws) s.views + (after starts steps).words Drawn ≤ DRAW_LIMIT
  pub few : (t : ℕ) → begun_events ((after starts steps).people t).activity ≤ EVENT_LIMIT
  pub each : (id : ℕ) (v : View) → get_elem? s.views id ≡ some v → Fits starts (after starts steps) v

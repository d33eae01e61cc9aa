-- Histories: atomic steps one after another, each lawful in the state that those before it leave.
use Rattle.std.specs.Prelude.{ℕ, ◌==◌, Bool, true, false, if◌then◌else◌, List, [], ◌∷◌, max, slice_index, None}
use Rattle.interleavings.specs.declared.activity.Activity.{Activity}
use Rattle.interleavings.specs.declared.activity.Phase.TheVariants.{Idle}
use Rattle.interleavings.specs.declared.activity.SeenNumber.{SeenNumber}
use Rattle.interleavings.specs.declared.activity.Tally.{Tally}
use Rattle.interleavings.specs.declared.kind.Kind.{Kind}
use Rattle.interleavings.specs.AtomicStep.{SharedWord, Drawn, Value, Number, Monitor, word_of, May, word_after, activity_after, tally_after, seen_after}

-- a thread while it is recorded: what it does, the count of its steps, and the numbers that it has seen
pub record Person : Type 0 where
  pub activity : Activity
  pub tally : Tally
  pub seen : List SeenNumber

-- the greatest number of a cell that was seen, 0 where none was
abbrev pub greatest_seen : ℕ → List SeenNumber → ℕ
greatest_seen cell [] = 0
greatest_seen cell (s ∷ seen) = max (if s.cell == cell then s.number else 0) (greatest_seen cell seen)

-- a thread that has no name and has done nothing
abbrev pub newcomer : Person
newcomer = record {
  activity = record { name = None; phase = Idle; events = []; held = []; looks = None };
  tally = record { steps = 0; last = None };
  seen = [];
}

-- the shared words, and the threads by their numbers
pub record State : Type 0 where
  pub words : SharedWord → ℕ
  pub people : ℕ → Person

-- whether a word is the count of names
abbrev pub is_drawn : SharedWord → Bool
is_drawn Drawn = true
is_drawn (Value other) = false
is_drawn (Number other) = false
is_drawn (Monitor other) = false

-- whether it is the value of this cell
abbrev pub is_value : ℕ → SharedWord → Bool
is_value cell Drawn = false
is_value cell (Value other) = cell == other
is_value cell (Number other) = false
is_value cell (Monitor other) = false

-- whether it is the number of this cell
abbrev pub is_number : ℕ → SharedWord → Bool
is_number cell Drawn = false
is_number cell (Value other) = false
is_number cell (Number other) = cell == other
is_number cell (Monitor other) = false

-- whether it is the word of this monitor
abbrev pub is_monitor : ℕ → SharedWord → Bool
is_monitor monitor Drawn = false
is_monitor monitor (Value other) = false
is_monitor monitor (Number other) = false
is_monitor monitor (Monitor other) = monitor == other

-- whether two words are the same
abbrev pub same_word : SharedWord → SharedWord → Bool
same_word Drawn other = is_drawn other
same_word (Value cell) other = is_value cell other
same_word (Number cell) other = is_number cell other
same_word (Monitor monitor) other = is_monitor monitor other

-- the words with another value of one of them
abbrev pub put_word : (SharedWord → ℕ) → SharedWord → ℕ → SharedWord → ℕ
put_word words word value other = if same_word other word then value else words other

-- the threads with another state of one of them
abbrev pub put_person : (ℕ → Person) → ℕ → Person → ℕ → Person
put_person people who person other = if other == who then person else people other

-- values are the starting values of the cells, and all else is 0
abbrev pub start_words : List ℕ → SharedWord → ℕ
start_words starts Drawn = 0
start_words starts (Value cell) = slice_index starts cell
start_words starts (Number cell) = 0
start_words starts (Monitor monitor) = 0

-- the state before any step
abbrev pub start_state : List ℕ → State
start_state starts = record { words = start_words starts; people = λ who. newcomer }

-- an atomic step: the thread that makes it, its kind, the cell or the monitor, and the value where it stores one
pub record Step : Type 0 where
  pub who : ℕ
  pub kind : Kind
  pub at : ℕ
  pub value : ℕ

-- the thread after its step, which met this word
abbrev pub person_after : Step → Person → ℕ → Person
person_after s person met = record {
  activity = activity_after s.kind s.at s.value person.activity met;
  tally = tally_after s.kind s.at person.tally met;
  seen = seen_after s.kind s.at person.activity.phase person.seen met;
}

-- the state after a step
abbrev pub happens : Step → State → State
happens s st =
    let word = word_of s.kind s.at in
    let met = st.words word in
    let person = st.people s.who in
    record {
      words = put_word st.words word (word_after s.kind s.at s.value person.activity met);
      people = put_person st.people s.who (person_after s person met);
    }

-- the state after these steps, of which the last stands first, from words that hold the starting values and otherwise 0
unfoldable pub after : List ℕ → List Step → State
after starts [] = start_state starts
after starts (s ∷ steps) = happens s (after starts steps)

-- each step is lawful in the state that the steps before it leave; the last stands first
unfoldable pub IsHistory : List ℕ → List Step → Type 0
IsHistory starts [] = Unit {0}
IsHistory starts (s ∷ steps) = May s.kind s.at ((after starts steps).people s.who).activity × IsHistory starts steps

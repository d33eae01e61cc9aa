-- What holds of the state that a history leads to, without its chronicle.
use Rattle.std.specs.Prelude.{◌≡◌, ◌⊎◌, ℕ, ◌+◌, ◌*◌, ◌/◌, ◌==◌, ◌<◌, ◌≤◌, Bool, false, List, count_by, sum_by, Option, Some, option_and_then, slice_get, slice_index}
use Rattle.std.specs.List.{range_with_len}
use Rattle.interleavings.specs.declared.activity.Phase.{Phase}
use Rattle.interleavings.specs.declared.activity.Phase.TheVariants.{Idle, Loaded, Numbered, Marked, Fetched, Stored, Looked}
use Rattle.interleavings.specs.declared.event.Event.{Event}
use Rattle.interleavings.specs.declared.event.Event.TheVariants.{Read, Write, Update, Enter, Exit}
use Rattle.interleavings.specs.AtomicStep.{SharedWord, Drawn, Number, Monitor, is_even}
use Rattle.interleavings.specs.Events.{write_of}
use Rattle.interleavings.specs.History.{State, greatest_seen}

-- a thread that has something of the word has half of it, rounded up, and the word is odd; there is one such thread at most,
-- and one where the word is odd
pub record IsOfOne (word : ℕ) (has : ℕ → Option ℕ) : Type 0 where
  pub own : (t n : ℕ) → has t ≡ Some n → word + 1 ≡ 2 * n
  pub one : (t u n m : ℕ) → has t ≡ Some n → has u ≡ Some m → t ≡ u
  pub there : is_even word ≡ false → (t : ℕ) × (has t ≡ Some ((word + 1) / 2))

-- the names are the numbers below the count of names, and each is one thread's
pub record AreNames (st : State) : Type 0 where
  pub below : (t name : ℕ) → (st.people t).activity.name ≡ Some name → name < st.words Drawn
  pub one : (t u name : ℕ) → (st.people t).activity.name ≡ Some name → (st.people u).activity.name ≡ Some name → t ≡ u
  pub there : (name : ℕ) → name < st.words Drawn → (t : ℕ) × ((st.people t).activity.name ≡ Some name)

-- no count of names, no number and no monitor's word has fallen
pub record HasGrown (old new : State) : Type 0 where
  pub names : old.words Drawn ≤ new.words Drawn
  pub numbers : (cell : ℕ) → old.words (Number cell) ≤ new.words (Number cell)
  pub turns : (monitor : ℕ) → old.words (Monitor monitor) ≤ new.words (Monitor monitor)

-- the number or the turn that a thread in this phase has seen is past
abbrev pub IsPhasePast : (SharedWord → ℕ) → Phase → Type 0
IsPhasePast words Idle = Unit {0}
IsPhasePast words (Loaded cell value) = Unit {0}
IsPhasePast words (Numbered cell n) = 2 * n ≤ words (Number cell)
IsPhasePast words (Marked cell n) = Unit {0}
IsPhasePast words (Fetched cell n old) = Unit {0}
IsPhasePast words (Stored cell n old value) = Unit {0}
IsPhasePast words (Looked monitor turn) = 2 * turn ≤ words (Monitor monitor)

-- what the thread has seen is past
pub record HasSeenPast (st : State) (t : ℕ) : Type 0 where
  pub seen : (cell : ℕ) → greatest_seen cell (st.people t).seen ≤ st.words (Number cell) / 2
  pub phase : IsPhasePast st.words (st.people t).activity.phase

-- the value is the cell's starting value, or that of a finished write or update of this number
abbrev pub WasWritten : List ℕ → State → ℕ → ℕ → ℕ → Type 0
WasWritten starts st cell number value = ((number ≡ 0) × (slice_index starts cell ≡ value)) ⊎ ((t : ℕ) × (i : ℕ) × (option_and_then write_of (slice_get (st.people t).activity.events i) ≡ Some (record { cell = cell; number = number; value = value })))

-- whether an event writes the cell, an update too
abbrev pub writes : ℕ → Event → Bool
writes cell (Read at value bound) = false
writes cell (Write at value number) = at == cell
writes cell (Update at old new number) = at == cell
writes cell (Enter monitor turn) = false
writes cell (Exit monitor turn) = false

-- whether an event enters the monitor
abbrev pub enters : ℕ → Event → Bool
enters monitor (Read at value bound) = false
enters monitor (Write at value number) = false
enters monitor (Update at old new number) = false
enters monitor (Enter at turn) = at == monitor
enters monitor (Exit at turn) = false

-- how many events of the first threads pass the test
abbrev pub passing : (Event → Bool) → ℕ → State → ℕ
passing test threads st = sum_by (λ t. count_by test (st.people t).activity.events) (range_with_len 0 threads)

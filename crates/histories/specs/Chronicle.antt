-- Chronicles: of a history, which step gave a cell its value number k and which began and ended turn k of a monitor, and when
-- each event took effect and was finished. Times count steps: the first step is made at time 1.
use Rattle.std.specs.Prelude.{◌≡◌, ◌⊎◌, ℕ, ◌+◌, ◌/◌, ◌==◌, ◌<◌, ◌≤◌, Bool, true, false, List, length, Option, Some, None, option_and_then, slice_get, slice_index}
use Rattle.interleavings.specs.declared.activity.Activity.{Activity}
use Rattle.interleavings.specs.declared.activity.Phase.{Phase}
use Rattle.interleavings.specs.declared.activity.Phase.TheVariants.{Idle, Loaded, Numbered, Marked, Fetched, Stored, Looked}
use Rattle.interleavings.specs.declared.event.Event.{Event}
use Rattle.interleavings.specs.declared.event.Event.TheVariants.{Read, Write, Update, Enter, Exit}
use Rattle.interleavings.specs.AtomicStep.{SharedWord, Value, Number, Monitor, held_turn, is_even}
use Rattle.interleavings.specs.Events.{write_of, entered_by, left_by}
use Rattle.interleavings.specs.History.{State}

-- what is numbered from 1: the values that were put into a cell, the entries into a monitor, and the exits from it
pub data Series : Type 0 where
  Puts : ℕ → Series
  Entries : ℕ → Series
  Exits : ℕ → Series

-- a step of a series: its thread, the place that its event has among the events of that thread, its time, and the value that
-- it put
pub record Mark : Type 0 where
  pub who : ℕ
  pub spot : ℕ
  pub time : ℕ
  pub value : ℕ

-- when an event took effect, or of a read when the value was loaded, and when it was finished
pub record Stamp : Type 0 where
  pub from : ℕ
  pub upto : ℕ

-- how many steps were made; of each series how many steps it has, and each of them, number 0 of a cell being its starting value;
-- when each thread last loaded a value or put one; the stamps of each thread's events by their places; and who last made a
-- word odd
pub record Chronicle : Type 0 where
  pub now : ℕ
  pub count : Series → ℕ
  pub mark : Series → ℕ → Mark
  pub begun : ℕ → ℕ
  pub stamp : ℕ → ℕ → Stamp
  pub owner : SharedWord → ℕ

-- a number where the test passes
abbrev pub number_if : Bool → ℕ → Option ℕ
number_if true number = Some number
number_if false number = None

-- the number that a writer in this phase has claimed of the cell and not completed, if it has
abbrev pub claim_of : ℕ → Phase → Option ℕ
claim_of cell Idle = None
claim_of cell (Loaded at value) = None
claim_of cell (Numbered at n) = None
claim_of cell (Marked at n) = number_if (cell == at) (n + 1)
claim_of cell (Fetched at n old) = number_if (cell == at) (n + 1)
claim_of cell (Stored at n old value) = number_if (cell == at) (n + 1)
claim_of cell (Looked monitor turn) = None

-- what a thread has of a word, by whether the word is even, whether the thread is its owner, and half of the word
abbrev pub share : Bool → Bool → ℕ → Option ℕ
share true own half = None
share false true half = Some half
share false false half = None

-- of an odd word its owner, and nobody else, has half, rounded up; of an even word nobody has anything
abbrev pub IsOwned : ℕ → ℕ → (ℕ → Option ℕ) → Type 0
IsOwned word owner has = (t : ℕ) → has t ≡ share (is_even word) (t == owner) ((word + 1) / 2)

-- at this time the cell had had this many values put, and no more
pub record Cuts (c : Chronicle) (cell number time : ℕ) : Type 0 where
  pub before : (k : ℕ) → k ≤ number → (c.mark (Puts cell) k).time < time
  pub behind : (k : ℕ) → number < k → k ≤ c.count (Puts cell) → time < (c.mark (Puts cell) k).time

-- the cell's value at this time
pub record IsValueAt (c : Chronicle) (cell value time : ℕ) : Type 0 where
  pub last : ℕ
  pub made : last ≤ c.count (Puts cell)
  pub equal : (c.mark (Puts cell) last).value ≡ value
  pub cut : Cuts c cell last time

-- the old value, where one was loaded, is that of this number
abbrev pub IsOld : Chronicle → ℕ → ℕ → Option ℕ → Type 0
IsOld c cell number None = Unit {0}
IsOld c cell number (Some old) = (c.mark (Puts cell) number).value ≡ old

-- the last value of the cell is the one that this thread put, as number n + 1, for the event that it will have at this spot
pub record HasPut (c : Chronicle) (t spot cell n value : ℕ) (old : Option ℕ) : Type 0 where
  pub count : c.count (Puts cell) ≡ n + 1
  pub mark : c.mark (Puts cell) (n + 1) ≡ record { who = t; spot = spot; time = c.begun t; value = value }
  pub before : IsOld c cell n old

-- what holds while a thread is in this phase, its next event being at this spot: a reader's value was that of the cell when it
-- was loaded, and no other thread puts a value into a cell that a writer has claimed
abbrev pub IsStanding : Chronicle → ℕ → ℕ → Phase → Type 0
IsStanding c t spot Idle = Unit {0}
IsStanding c t spot (Loaded cell value) = IsValueAt c cell value (c.begun t)
IsStanding c t spot (Numbered cell n) = Unit {0}
IsStanding c t spot (Marked cell n) = c.count (Puts cell) ≡ n
IsStanding c t spot (Fetched cell n old) = (c.count (Puts cell) ≡ n) × ((c.mark (Puts cell) n).value ≡ old)
IsStanding c t spot (Stored cell n old value) = HasPut c t spot cell n value old
IsStanding c t spot (Looked monitor turn) = Unit {0}

-- the thread has begun an event: it has loaded the value or put it
abbrev pub HasBegun : Phase → Type 0
HasBegun Idle = ⊥
HasBegun (Loaded cell value) = Unit {0}
HasBegun (Numbered cell n) = ⊥
HasBegun (Marked cell n) = ⊥
HasBegun (Fetched cell n old) = ⊥
HasBegun (Stored cell n old value) = Unit {0}
HasBegun (Looked monitor turn) = ⊥

-- the events of a thread follow one another: each was finished before the next one took effect
pub record AreStamps (now begun : ℕ) (stamp : ℕ → Stamp) (count : ℕ) (phase : Phase) : Type 0 where
  pub begun_past : begun ≤ now
  pub ordered : (i : ℕ) → i < count → (stamp i).from ≤ (stamp i).upto
  pub past : (i : ℕ) → i < count → (stamp i).upto ≤ now
  pub apart : (i j : ℕ) → i < j → j < count → (stamp i).upto < (stamp j).from
  pub behind : HasBegun phase → (i : ℕ) → i < count → (stamp i).upto < begun

-- the step of this number of a series was made by this thread at this time, and its event is the thread's at this spot
pub record IsStepOf (c : Chronicle) (series : Series) (number t spot time : ℕ) : Type 0 where
  pub some : 1 ≤ number
  pub made : number ≤ c.count series
  pub who : (c.mark series number).who ≡ t
  pub place : (c.mark series number).spot ≡ spot
  pub moment : (c.mark series number).time ≡ time

-- a read: the value is that of the cell when it was loaded, and the bound counts the values put until the read was finished
pub record IsReadOf (c : Chronicle) (cell value bound : ℕ) (stamp : Stamp) : Type 0 where
  pub last : ℕ
  pub within : last ≤ bound
  pub made : bound ≤ c.count (Puts cell)
  pub equal : (c.mark (Puts cell) last).value ≡ value
  pub from : Cuts c cell last stamp.from
  pub upto : Cuts c cell bound stamp.upto

-- a write: the step that put the value
pub record IsWriteOf (c : Chronicle) (cell value number t spot time : ℕ) : Type 0 where
  pub step : IsStepOf c (Puts cell) number t spot time
  pub equal : (c.mark (Puts cell) number).value ≡ value

-- what an event of a thread at this spot tells of the steps
abbrev pub Tells : Chronicle → ℕ → ℕ → Stamp → Event → Type 0
Tells c t spot stamp (Read cell value bound) = IsReadOf c cell value bound stamp
Tells c t spot stamp (Write cell value number) = IsWriteOf c cell value number t spot stamp.from
Tells c t spot stamp (Update cell old new number) = IsWriteOf c cell new number t spot stamp.from × ((below : ℕ) → below + 1 ≡ number → (c.mark (Puts cell) below).value ≡ old)
Tells c t spot stamp (Enter monitor turn) = IsStepOf c (Entries monitor) turn t spot stamp.from
Tells c t spot stamp (Exit monitor turn) = IsStepOf c (Exits monitor) turn t spot stamp.from

-- the event of a step of a series stands where its mark says; that of a value that was put may still have to be completed
abbrev pub IsMade : Series → ℕ → Mark → Activity → Type 0
IsMade (Puts cell) number mark activity = (option_and_then write_of (slice_get activity.events mark.spot) ≡ Some (record { cell = cell; number = number; value = mark.value })) ⊎ (claim_of cell activity.phase ≡ Some number)
IsMade (Entries monitor) number mark activity = option_and_then entered_by (slice_get activity.events mark.spot) ≡ Some (record { monitor = monitor; turn = number })
IsMade (Exits monitor) number mark activity = option_and_then left_by (slice_get activity.events mark.spot) ≡ Some (record { monitor = monitor; turn = number })

-- the chronicle is one of a history that led to this state from these starting values
pub record IsChronicleOf (starts : List ℕ) (st : State) (c : Chronicle) : Type 0 where
  -- the steps of a series are in the order of their numbers, and none is to come
  pub past : (series : Series) (k : ℕ) → k ≤ c.count series → (c.mark series k).time ≤ c.now
  pub rises : (series : Series) (j k : ℕ) → j < k → k ≤ c.count series → (c.mark series j).time < (c.mark series k).time
  -- one thread at most has claimed a cell, and one at most holds a monitor
  pub claims : (cell : ℕ) → IsOwned (st.words (Number cell)) (c.owner (Number cell)) (λ t. claim_of cell (st.people t).activity.phase)
  pub holds : (monitor : ℕ) → IsOwned (st.words (Monitor monitor)) (c.owner (Monitor monitor)) (λ t. held_turn monitor (st.people t).activity.held)
  -- what the words say of the series
  pub value : (cell : ℕ) → st.words (Value cell) ≡ (c.mark (Puts cell) (c.count (Puts cell))).value
  pub number : (cell : ℕ) → is_even (st.words (Number cell)) ≡ true → c.count (Puts cell) ≡ st.words (Number cell) / 2
  pub entries : (monitor : ℕ) → c.count (Entries monitor) ≡ (st.words (Monitor monitor) + 1) / 2
  pub exits : (monitor : ℕ) → c.count (Exits monitor) ≡ st.words (Monitor monitor) / 2
  -- a turn begins after the one before it has ended
  pub turns : (monitor j : ℕ) → j + 1 ≤ c.count (Entries monitor) → (c.mark (Exits monitor) j).time < (c.mark (Entries monitor) (j + 1)).time
  pub starting : (cell : ℕ) → (c.mark (Puts cell) 0).value ≡ slice_index starts cell
  -- how far each thread is, its events one after another, what each of them tells, and that each step's event is there
  pub stands : (t : ℕ) → IsStanding c t (length (st.people t).activity.events) (st.people t).activity.phase
  pub follows : (t : ℕ) → AreStamps c.now (c.begun t) (c.stamp t) (length (st.people t).activity.events) (st.people t).activity.phase
  pub tells : (t i : ℕ) (event : Event) → slice_get (st.people t).activity.events i ≡ Some event → Tells c t i (c.stamp t i) event
  pub made : (series : Series) (k : ℕ) → 1 ≤ k → k ≤ c.count series → IsMade series k (c.mark series k) (st.people (c.mark series k).who).activity

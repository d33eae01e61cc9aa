-- Atomic steps: what each of the eleven kinds does to the one word that it touches and to the thread that makes it.
-- Threads, cells and monitors are of any number here, and no program is named.
use Rattle.std.specs.Prelude.{◌≡◌, ℕ, ◌+◌, ◌*◌, ◌/◌, ◌%◌, ◌==◌, Bool, true, false, if◌then◌else◌, not, List, [], ◌∷◌, ◌++◌, filter, Option, Some, None, IsSome, IsNone}
use prog.Atomic.{either}
use Rattle.interleavings.specs.declared.activity.Activity.{Activity}
use Rattle.interleavings.specs.declared.activity.HeldTurn.{HeldTurn}
use Rattle.interleavings.specs.declared.activity.OddLooks.{OddLooks}
use Rattle.interleavings.specs.declared.activity.Phase.{Phase}
use Rattle.interleavings.specs.declared.activity.Phase.TheVariants.{Idle, Loaded, Numbered, Marked, Fetched, Stored, Looked}
use Rattle.interleavings.specs.declared.activity.SeenNumber.{SeenNumber}
use Rattle.interleavings.specs.declared.activity.Tally.{Tally}
use Rattle.interleavings.specs.declared.event.Event.{Event}
use Rattle.interleavings.specs.declared.event.Event.TheVariants as events
use Rattle.interleavings.specs.declared.kind.Kind.{Kind}
use Rattle.interleavings.specs.declared.kind.Kind.TheVariants as by

-- the shared words: how many names were drawn; of each cell its value and its number; of each monitor its word
pub data SharedWord : Type 0 where
  Drawn : SharedWord
  Value : ℕ → SharedWord
  Number : ℕ → SharedWord
  Monitor : ℕ → SharedWord

-- the word that a step touches, by the cell or the monitor
abbrev pub word_of : Kind → ℕ → SharedWord
word_of by.ValueLoad at = Value at
word_of by.NumberLoad at = Number at
word_of by.SeeNumber at = Number at
word_of by.Claim at = Number at
word_of by.Fetch at = Value at
word_of by.Put at = Value at
word_of by.Complete at = Number at
word_of by.Look at = Monitor at
word_of by.Enter at = Monitor at
word_of by.Leave at = Monitor at
word_of by.Draw at = Drawn

-- the thread is at no shared instruction
abbrev pub IsIdle : Phase → Type 0
IsIdle Idle = Unit {0}
IsIdle (Loaded cell value) = ⊥
IsIdle (Numbered cell n) = ⊥
IsIdle (Marked cell n) = ⊥
IsIdle (Fetched cell n old) = ⊥
IsIdle (Stored cell n old value) = ⊥
IsIdle (Looked monitor turn) = ⊥

-- it has loaded the value of this cell
abbrev pub HasLoaded : ℕ → Phase → Type 0
HasLoaded at Idle = ⊥
HasLoaded at (Loaded cell value) = at ≡ cell
HasLoaded at (Numbered cell n) = ⊥
HasLoaded at (Marked cell n) = ⊥
HasLoaded at (Fetched cell n old) = ⊥
HasLoaded at (Stored cell n old value) = ⊥
HasLoaded at (Looked monitor turn) = ⊥

-- it has seen the number of this cell
abbrev pub HasNumbered : ℕ → Phase → Type 0
HasNumbered at Idle = ⊥
HasNumbered at (Loaded cell value) = ⊥
HasNumbered at (Numbered cell n) = at ≡ cell
HasNumbered at (Marked cell n) = ⊥
HasNumbered at (Fetched cell n old) = ⊥
HasNumbered at (Stored cell n old value) = ⊥
HasNumbered at (Looked monitor turn) = ⊥

-- it has claimed this cell, and has neither loaded the old value nor stored
abbrev pub HasMarked : ℕ → Phase → Type 0
HasMarked at Idle = ⊥
HasMarked at (Loaded cell value) = ⊥
HasMarked at (Numbered cell n) = ⊥
HasMarked at (Marked cell n) = at ≡ cell
HasMarked at (Fetched cell n old) = ⊥
HasMarked at (Stored cell n old value) = ⊥
HasMarked at (Looked monitor turn) = ⊥

-- it has claimed this cell and has not stored; it may have loaded the old value
abbrev pub CanStore : ℕ → Phase → Type 0
CanStore at Idle = ⊥
CanStore at (Loaded cell value) = ⊥
CanStore at (Numbered cell n) = ⊥
CanStore at (Marked cell n) = at ≡ cell
CanStore at (Fetched cell n old) = at ≡ cell
CanStore at (Stored cell n old value) = ⊥
CanStore at (Looked monitor turn) = ⊥

-- it has stored into this cell
abbrev pub HasStored : ℕ → Phase → Type 0
HasStored at Idle = ⊥
HasStored at (Loaded cell value) = ⊥
HasStored at (Numbered cell n) = ⊥
HasStored at (Marked cell n) = ⊥
HasStored at (Fetched cell n old) = ⊥
HasStored at (Stored cell n old value) = at ≡ cell
HasStored at (Looked monitor turn) = ⊥

-- it has seen this monitor free
abbrev pub HasLooked : ℕ → Phase → Type 0
HasLooked at Idle = ⊥
HasLooked at (Loaded cell value) = ⊥
HasLooked at (Numbered cell n) = ⊥
HasLooked at (Marked cell n) = ⊥
HasLooked at (Fetched cell n old) = ⊥
HasLooked at (Stored cell n old value) = ⊥
HasLooked at (Looked monitor turn) = at ≡ monitor

-- the phase in which a step is made
abbrev pub Begins : Kind → ℕ → Phase → Type 0
Begins by.ValueLoad at phase = IsIdle phase
Begins by.NumberLoad at phase = HasLoaded at phase
Begins by.SeeNumber at phase = IsIdle phase
Begins by.Claim at phase = HasNumbered at phase
Begins by.Fetch at phase = HasMarked at phase
Begins by.Put at phase = CanStore at phase
Begins by.Complete at phase = HasStored at phase
Begins by.Look at phase = IsIdle phase
Begins by.Enter at phase = HasLooked at phase
Begins by.Leave at phase = IsIdle phase
Begins by.Draw at phase = IsIdle phase

-- the turn for which the monitor is held, if it is
abbrev pub held_turn : ℕ → List HeldTurn → Option ℕ
held_turn monitor [] = None
held_turn monitor (h ∷ held) = if h.mon == monitor then Some h.turn else held_turn monitor held

-- a draw is made without a name, and the first step of a read, a write, an update or an entry with one; only a monitor that
-- is held is left
abbrev pub Suits : Kind → ℕ → Activity → Type 0
Suits by.ValueLoad at activity = IsSome activity.name
Suits by.NumberLoad at activity = Unit {0}
Suits by.SeeNumber at activity = IsSome activity.name
Suits by.Claim at activity = Unit {0}
Suits by.Fetch at activity = Unit {0}
Suits by.Put at activity = Unit {0}
Suits by.Complete at activity = Unit {0}
Suits by.Look at activity = IsSome activity.name
Suits by.Enter at activity = Unit {0}
Suits by.Leave at activity = IsSome (held_turn at activity.held)
Suits by.Draw at activity = IsNone activity.name

-- the step may be made
pub record May (kind : Kind) (at : ℕ) (activity : Activity) : Type 0 where
  pub begins : Begins kind at activity.phase
  pub suits : Suits kind at activity

-- half of the number that a writer saw
abbrev pub number_in : Phase → ℕ
number_in Idle = 0
number_in (Loaded cell value) = 0
number_in (Numbered cell n) = n
number_in (Marked cell n) = n
number_in (Fetched cell n old) = n
number_in (Stored cell n old value) = n
number_in (Looked monitor turn) = 0

-- how many turns a monitor had when it was seen free
abbrev pub turn_in : Phase → ℕ
turn_in Idle = 0
turn_in (Loaded cell value) = 0
turn_in (Numbered cell n) = 0
turn_in (Marked cell n) = 0
turn_in (Fetched cell n old) = 0
turn_in (Stored cell n old value) = 0
turn_in (Looked monitor turn) = turn

-- a number of turns where there is one
abbrev pub turn_or_zero : Option ℕ → ℕ
turn_or_zero (Some turn) = turn
turn_or_zero None = 0

-- whether a word is even
abbrev pub is_even : ℕ → Bool
is_even word = word % 2 == 0

-- the word after the step, by what it stores and the word that it met; a claim and an entry exchange the word that was seen
-- for the next one
abbrev pub word_after : Kind → ℕ → ℕ → Activity → ℕ → ℕ
word_after by.ValueLoad at value activity met = met
word_after by.NumberLoad at value activity met = met
word_after by.SeeNumber at value activity met = met
word_after by.Claim at value activity met = either (met == 2 * number_in activity.phase) (2 * number_in activity.phase + 1) met
word_after by.Fetch at value activity met = met
word_after by.Put at value activity met = value
word_after by.Complete at value activity met = 2 * number_in activity.phase + 2
word_after by.Look at value activity met = met
word_after by.Enter at value activity met = either (met == 2 * turn_in activity.phase) (2 * turn_in activity.phase + 1) met
word_after by.Leave at value activity met = 2 * turn_or_zero (held_turn at activity.held)
word_after by.Draw at value activity met = met + 1

-- the event of a reader that has loaded the value, with this bound
abbrev pub ended_read : Phase → ℕ → Option Event
ended_read Idle bound = None
ended_read (Loaded cell value) bound = Some (events.Read cell value bound)
ended_read (Numbered cell n) bound = None
ended_read (Marked cell n) bound = None
ended_read (Fetched cell n old) bound = None
ended_read (Stored cell n old value) bound = None
ended_read (Looked monitor turn) bound = None

-- the same where the number was even
abbrev pub read_if : Bool → Phase → ℕ → Option Event
read_if true phase bound = ended_read phase bound
read_if false phase bound = None

-- the event of a writer that completes its number: an update where it had loaded the old value, and else a write
abbrev pub completed : Phase → Option Event
completed Idle = None
completed (Loaded cell value) = None
completed (Numbered cell n) = None
completed (Marked cell n) = None
completed (Fetched cell n old) = None
completed (Stored cell n None value) = Some (events.Write cell value (n + 1))
completed (Stored cell n (Some old) value) = Some (events.Update cell old value (n + 1))
completed (Looked monitor turn) = None

-- the event of an entry, where the monitor was still as it was seen
abbrev pub entered_if : Bool → ℕ → ℕ → Option Event
entered_if true monitor turn = Some (events.Enter monitor turn)
entered_if false monitor turn = None

-- the event that the step finishes, if it finishes one
abbrev pub finished_by : Kind → ℕ → Activity → ℕ → Option Event
finished_by by.ValueLoad at activity met = None
finished_by by.NumberLoad at activity met = read_if (is_even met) activity.phase (met / 2)
finished_by by.SeeNumber at activity met = None
finished_by by.Claim at activity met = None
finished_by by.Fetch at activity met = None
finished_by by.Put at activity met = None
finished_by by.Complete at activity met = completed activity.phase
finished_by by.Look at activity met = None
finished_by by.Enter at activity met = entered_if (met == 2 * turn_in activity.phase) at (turn_in activity.phase + 1)
finished_by by.Leave at activity met = Some (events.Exit at (turn_or_zero (held_turn at activity.held)))
finished_by by.Draw at activity met = None

-- the events with one more at their end, if there is one
abbrev pub with_event : List Event → Option Event → List Event
with_event done None = done
with_event done (Some event) = done ++ event ∷ []

-- a phase where the test passes, or else another
abbrev pub phase_if : Bool → Phase → Phase → Phase
phase_if true phase other = phase
phase_if false phase other = other

-- the phase of a writer that has claimed
abbrev pub marked : Phase → Phase
marked Idle = Idle
marked (Loaded cell value) = Loaded cell value
marked (Numbered cell n) = Marked cell n
marked (Marked cell n) = Marked cell n
marked (Fetched cell n old) = Fetched cell n old
marked (Stored cell n old value) = Stored cell n old value
marked (Looked monitor turn) = Looked monitor turn

-- the phase of a writer that has claimed and then loaded the old value
abbrev pub fetched : ℕ → Phase → Phase
fetched old Idle = Idle
fetched old (Loaded cell value) = Loaded cell value
fetched old (Numbered cell n) = Numbered cell n
fetched old (Marked cell n) = Fetched cell n old
fetched old (Fetched cell n before) = Fetched cell n before
fetched old (Stored cell n before value) = Stored cell n before value
fetched old (Looked monitor turn) = Looked monitor turn

-- the phase of a writer that has stored this value
abbrev pub stored : ℕ → Phase → Phase
stored value Idle = Idle
stored value (Loaded cell loaded) = Loaded cell loaded
stored value (Numbered cell n) = Numbered cell n
stored value (Marked cell n) = Stored cell n None value
stored value (Fetched cell n old) = Stored cell n (Some old) value
stored value (Stored cell n old before) = Stored cell n old before
stored value (Looked monitor turn) = Looked monitor turn

-- the phase after the step
abbrev pub phase_after : Kind → ℕ → ℕ → Phase → ℕ → Phase
phase_after by.ValueLoad at value phase met = Loaded at met
phase_after by.NumberLoad at value phase met = phase_if (is_even met) Idle phase
phase_after by.SeeNumber at value phase met = phase_if (is_even met) (Numbered at (met / 2)) Idle
phase_after by.Claim at value phase met = phase_if (met == 2 * number_in phase) (marked phase) Idle
phase_after by.Fetch at value phase met = fetched met phase
phase_after by.Put at value phase met = stored value phase
phase_after by.Complete at value phase met = Idle
phase_after by.Look at value phase met = phase_if (is_even met) (Looked at (met / 2)) Idle
phase_after by.Enter at value phase met = Idle
phase_after by.Leave at value phase met = Idle
phase_after by.Draw at value phase met = Idle

-- the name after the step
abbrev pub name_after : Kind → Option ℕ → ℕ → Option ℕ
name_after by.ValueLoad name met = name
name_after by.NumberLoad name met = name
name_after by.SeeNumber name met = name
name_after by.Claim name met = name
name_after by.Fetch name met = name
name_after by.Put name met = name
name_after by.Complete name met = name
name_after by.Look name met = name
name_after by.Enter name met = name
name_after by.Leave name met = name
name_after by.Draw name met = Some met

-- the turns held, with one more where the test passes
abbrev pub held_if : Bool → HeldTurn → List HeldTurn → List HeldTurn
held_if true h held = h ∷ held
held_if false h held = held

-- the turns held after the step
abbrev pub held_after : Kind → ℕ → Phase → List HeldTurn → ℕ → List HeldTurn
held_after by.ValueLoad at phase held met = held
held_after by.NumberLoad at phase held met = held
held_after by.SeeNumber at phase held met = held
held_after by.Claim at phase held met = held
held_after by.Fetch at phase held met = held
held_after by.Put at phase held met = held
held_after by.Complete at phase held met = held
held_after by.Look at phase held met = held
held_after by.Enter at phase held met = held_if (met == 2 * turn_in phase) (record { mon = at; turn = turn_in phase + 1 }) held
held_after by.Leave at phase held met = filter (λ h. not (h.mon == at)) held
held_after by.Draw at phase held met = held

-- the row of odd looks with one more at this monitor; a look at another monitor begins a row of one
abbrev pub one_more : ℕ → Option OddLooks → OddLooks
one_more monitor None = record { mon = monitor; count = 1 }
one_more monitor (Some row) = record { mon = monitor; count = if row.mon == monitor then row.count + 1 else 1 }

-- the row after a look, by whether the word was even
abbrev pub looked : Bool → ℕ → Option OddLooks → Option OddLooks
looked true monitor row = None
looked false monitor row = Some (one_more monitor row)

-- the row of odd looks after the step
abbrev pub looks_after : Kind → ℕ → Option OddLooks → ℕ → Option OddLooks
looks_after by.ValueLoad at row met = row
looks_after by.NumberLoad at row met = row
looks_after by.SeeNumber at row met = row
looks_after by.Claim at row met = row
looks_after by.Fetch at row met = row
looks_after by.Put at row met = row
looks_after by.Complete at row met = row
looks_after by.Look at row met = looked (is_even met) at row
looks_after by.Enter at row met = row
looks_after by.Leave at row met = row
looks_after by.Draw at row met = row

-- what the thread does after the step
abbrev pub activity_after : Kind → ℕ → ℕ → Activity → ℕ → Activity
activity_after kind at value activity met = record {
  name = name_after kind activity.name met;
  phase = phase_after kind at value activity.phase met;
  events = with_event activity.events (finished_by kind at activity met);
  held = held_after kind at activity.phase activity.held met;
  looks = looks_after kind at activity.looks met;
}

-- the cell or the monitor of a word; the count of names is of none
abbrev pub place_in : SharedWord → Option ℕ
place_in Drawn = None
place_in (Value cell) = Some cell
place_in (Number cell) = Some cell
place_in (Monitor monitor) = Some monitor

-- the cell or the monitor of a step; a draw has none
abbrev pub place_of : Kind → ℕ → Option ℕ
place_of kind at = place_in (word_of kind at)

-- the word that a step loads or meets; a store tells its thread nothing, so it counts as 0
abbrev pub word_told : Kind → ℕ → ℕ
word_told by.ValueLoad met = met
word_told by.NumberLoad met = met
word_told by.SeeNumber met = met
word_told by.Claim met = met
word_told by.Fetch met = met
word_told by.Put met = 0
word_told by.Complete met = 0
word_told by.Look met = met
word_told by.Enter met = met
word_told by.Leave met = 0
word_told by.Draw met = met

-- the count of steps and the last of them, after the step
abbrev pub tally_after : Kind → ℕ → Tally → ℕ → Tally
tally_after kind at tally met = record {
  steps = tally.steps + 1;
  last = Some (record { kind = kind; place = place_of kind at; word = word_told kind met });
}

-- the numbers seen, with one more where the word was even
abbrev pub seen_if : Bool → SeenNumber → List SeenNumber → List SeenNumber
seen_if true s seen = s ∷ seen
seen_if false s seen = seen

-- the numbers that the thread has seen after the step, the last of them first: those of its reads' even numbers and those of
-- its own writes and updates
abbrev pub seen_after : Kind → ℕ → Phase → List SeenNumber → ℕ → List SeenNumber
seen_after by.ValueLoad at phase seen met = seen
seen_after by.NumberLoad at phase seen met = seen_if (is_even met) (record { cell = at; number = met / 2 }) seen
seen_after by.SeeNumber at phase seen met = seen
seen_after by.Claim at phase seen met = seen
seen_after by.Fetch at phase seen met = seen
seen_after by.Put at phase seen met = seen
seen_after by.Complete at phase seen met = record { cell = at; number = number_in phase + 1 } ∷ seen
seen_after by.Look at phase seen met = seen
seen_after by.Enter at phase seen met = seen
seen_after by.Leave at phase seen met = seen
seen_after by.Draw at phase seen met = seen

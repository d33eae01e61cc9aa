-- What holds of every history of atomic steps, of any length and any number of threads, cells and monitors.
use Rattle.std.specs.Prelude.{◌≡◌, ℕ, ◌+◌, ◌/◌, ◌<◌, List, ◌++◌, true, None, Some, slice_get}
use Rattle.interleavings.specs.declared.event.Event.TheVariants.{Update}
use Rattle.interleavings.specs.AtomicStep.{Number, Monitor, held_turn, is_even}
use Rattle.interleavings.specs.History.{Step, after, IsHistory, newcomer}
use Rattle.interleavings.specs.Recording.{Among, IsAtRest}
use Rattle.histories.specs.Chronicle.{Chronicle, IsChronicleOf, claim_of}
use Rattle.histories.specs.Facts.{AreNames, IsOfOne, HasGrown, HasSeenPast, WasWritten, enters, passing, writes}

-- every history has a chronicle
abbrev pub HistoriesHaveChronicles : Type 0
HistoriesHaveChronicles = (starts : List ℕ) (steps : List Step) → IsHistory starts steps → (c : Chronicle) × IsChronicleOf starts (after starts steps) c

-- one thread at most has claimed a cell, and one where its number is odd; the claimed number is half of that number, rounded up
abbrev pub OneClaimer : Type 0
OneClaimer = (starts : List ℕ) (steps : List Step) (cell : ℕ) → IsHistory starts steps → IsOfOne ((after starts steps).words (Number cell)) (λ t. claim_of cell ((after starts steps).people t).activity.phase)

-- one thread at most holds a monitor, and one where its word is odd; the turn is half of that word, rounded up
abbrev pub OneHolder : Type 0
OneHolder = (starts : List ℕ) (steps : List Step) (monitor : ℕ) → IsHistory starts steps → IsOfOne ((after starts steps).words (Monitor monitor)) (λ t. held_turn monitor ((after starts steps).people t).activity.held)

-- once each thread is at rest every number is even
abbrev pub EvenAtRest : Type 0
EvenAtRest = (starts : List ℕ) (steps : List Step) → IsHistory starts steps → ((t : ℕ) → IsAtRest ((after starts steps).people t).activity.phase) → (cell : ℕ) → is_even ((after starts steps).words (Number cell)) ≡ true

-- an update met the value of the write numbered one below it
abbrev pub UpdatesMeetTheWriteBefore : Type 0
UpdatesMeetTheWriteBefore = (starts : List ℕ) (steps : List Step) (t i cell old new number : ℕ) → IsHistory starts steps → slice_get ((after starts steps).people t).activity.events i ≡ Some (Update cell old new number) → (below : ℕ) × (below + 1 ≡ number) × WasWritten starts (after starts steps) cell below old

-- no count of names, no number and no monitor's word falls by further steps
abbrev pub NothingFalls : Type 0
NothingFalls = (starts : List ℕ) (more steps : List Step) → IsHistory starts (more ++ steps) → HasGrown (after starts steps) (after starts (more ++ steps))

-- what a thread has seen of a cell is at most half of its number, and what it has just seen is not above the word
abbrev pub WhatIsSeenIsPast : Type 0
WhatIsSeenIsPast = (starts : List ℕ) (steps : List Step) (t : ℕ) → IsHistory starts steps → HasSeenPast (after starts steps) t

-- a name stays by further steps
abbrev pub NamesStay : Type 0
NamesStay = (starts : List ℕ) (more steps : List Step) (t name : ℕ) → IsHistory starts (more ++ steps) → ((after starts steps).people t).activity.name ≡ Some name → ((after starts (more ++ steps)).people t).activity.name ≡ Some name

-- the names are the numbers from 0 up to the count of names, each of one thread
abbrev pub NamesAreDrawn : Type 0
NamesAreDrawn = (starts : List ℕ) (steps : List Step) → IsHistory starts steps → AreNames (after starts steps)

-- a thread without a name has done nothing
abbrev pub NamelessAreNewcomers : Type 0
NamelessAreNewcomers = (starts : List ℕ) (steps : List Step) (t : ℕ) → IsHistory starts steps → ((after starts steps).people t).activity.name ≡ None → (after starts steps).people t ≡ newcomer

-- nor has one that made no step
abbrev pub StrangersAreNewcomers : Type 0
StrangersAreNewcomers = (starts : List ℕ) (steps : List Step) (t : ℕ) → ((s : Step) → Among s steps → s.who ≡ t → ⊥) → (after starts steps).people t ≡ newcomer

-- half of a cell's number counts the finished writes and updates of the cell, where no thread but the first ones makes a step
abbrev pub NumbersCountWrites : Type 0
NumbersCountWrites = (starts : List ℕ) (steps : List Step) (threads cell : ℕ) → IsHistory starts steps → ((s : Step) → Among s steps → s.who < threads) → passing (writes cell) threads (after starts steps) ≡ (after starts steps).words (Number cell) / 2

-- half of a monitor's word, rounded up, counts the entries into the monitor
abbrev pub TurnsCountEntries : Type 0
TurnsCountEntries = (starts : List ℕ) (steps : List Step) (threads monitor : ℕ) → IsHistory starts steps → ((s : Step) → Among s steps → s.who < threads) → passing (enters monitor) threads (after starts steps) ≡ ((after starts steps).words (Monitor monitor) + 1) / 2

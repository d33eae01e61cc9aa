-- What keeps the events of threads from being linked, and which of it is told first.
use Rattle.std.specs.Prelude.{◌≡◌, ◌≢◌, ℕ, ◌+◌, ◌<◌, ◌≤◌, Option}
use Rattle.stride_base.specs.Ascending.{Triple, Before}
use Rattle.interleavings.specs.declared.traces.Place.{Place}
use Rattle.interleavings.specs.TraceLists.{TraceLists}
use Rattle.linkage.specs.declared.link_error.LinkError.{LinkError}
use Rattle.linkage.specs.declared.link_error.LinkError.TheVariants.{TwiceWritten, WriteGap, TwiceTurned, TurnGap, BoundTooLarge, NoEqualWrite, UpdateMismatch, NoMemory}
use Rattle.linkage.specs.Sources.{IsWriteAt, Stored, IsEntryAt, IsExitAt, IsReadAt, IsUpdateAt}

-- two writes of the cell have this number
pub record IsTwiceWritten (traces : TraceLists) (cell number : ℕ) : Type 0 where
  pub one : Option Place
  pub other : Option Place
  pub differ : one ≢ other
  pub one_value : ℕ
  pub one_writes : IsWriteAt traces one cell number one_value
  pub other_value : ℕ
  pub other_writes : IsWriteAt traces other cell number other_value

-- no write of the cell has this number, and one has a greater
pub record IsWriteGap (traces : TraceLists) (cell number : ℕ) : Type 0 where
  pub missing : (value : ℕ) → Stored traces cell number value → ⊥
  pub greater : ℕ
  pub above : number < greater
  pub greater_value : ℕ
  pub there : Stored traces cell greater greater_value

-- two entries into the monitor have this turn
pub record IsTwiceTurned (traces : TraceLists) (monitor turn : ℕ) : Type 0 where
  pub one : Option Place
  pub other : Option Place
  pub differ : one ≢ other
  pub one_enters : IsEntryAt traces one monitor turn
  pub other_enters : IsEntryAt traces other monitor turn

-- no exit from the monitor has this turn, and an entry has a greater
pub record IsTurnGap (traces : TraceLists) (monitor turn : ℕ) : Type 0 where
  pub missing : (source : Option Place) → IsExitAt traces source monitor turn → ⊥
  pub greater : ℕ
  pub above : turn < greater
  pub source : Option Place
  pub enters : IsEntryAt traces source monitor greater

-- the bound of the read at the place is above every number of its cell
pub record IsBoundTooLarge (traces : TraceLists) (place : Place) : Type 0 where
  pub cell : ℕ
  pub value : ℕ
  pub bound : ℕ
  pub reads : IsReadAt traces place cell value bound
  pub above : (number stored : ℕ) → Stored traces cell number stored → number < bound

-- no write within the bound of the read at the place stored its value
pub record IsUnequal (traces : TraceLists) (place : Place) : Type 0 where
  pub cell : ℕ
  pub value : ℕ
  pub bound : ℕ
  pub reads : IsReadAt traces place cell value bound
  pub none : (number : ℕ) → number ≤ bound → Stored traces cell number value → ⊥

-- the write numbered one below the update at the place did not store its old value
pub record IsMismatch (traces : TraceLists) (place : Place) : Type 0 where
  pub cell : ℕ
  pub old : ℕ
  pub number : ℕ
  pub updates : IsUpdateAt traces place cell old number
  pub none : (below : ℕ) → below + 1 ≡ number → Stored traces cell below old → ⊥

-- what this refusal says is so
abbrev pub IsRefused : TraceLists → LinkError → Type 0
IsRefused traces (TwiceWritten cell number) = IsTwiceWritten traces cell number
IsRefused traces (WriteGap cell number) = IsWriteGap traces cell number
IsRefused traces (TwiceTurned monitor turn) = IsTwiceTurned traces monitor turn
IsRefused traces (TurnGap monitor turn) = IsTurnGap traces monitor turn
IsRefused traces (BoundTooLarge place) = IsBoundTooLarge traces place
IsRefused traces (NoEqualWrite place) = IsUnequal traces place
IsRefused traces (UpdateMismatch place) = IsMismatch traces place
IsRefused traces NoMemory = ⊥

-- where a refusal stands in the order: its kind, then the cell and number, the monitor and turn, or the thread and place
abbrev pub rank_of : LinkError → Triple
rank_of NoMemory = (0, 0, 0)
rank_of (TwiceWritten cell number) = (1, cell, number)
rank_of (WriteGap cell number) = (2, cell, number)
rank_of (TwiceTurned monitor turn) = (3, monitor, turn)
rank_of (TurnGap monitor turn) = (4, monitor, turn)
rank_of (BoundTooLarge place) = (5, place.thread, place.place)
rank_of (NoEqualWrite place) = (6, place.thread, place.place)
rank_of (UpdateMismatch place) = (7, place.thread, place.place)

-- what this refusal says is so, and no such refusal stands before it
pub record IsFirstRefusal (traces : TraceLists) (refusal : LinkError) : Type 0 where
  pub refused : IsRefused traces refusal
  pub first : (other : LinkError) → IsRefused traces other → Before (rank_of other) (rank_of refusal) → ⊥

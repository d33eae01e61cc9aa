-- Turns of one thread in a row, over a row of cells and a row of the holders of monitors.
use Rattle.std.specs.Prelude.{◌≡◌, ℕ, zero, suc, ◌<◌, ◌≤◌, Bool, true, false, List, [], ◌++◌, Option, Some, None, slice_index, slice_index_or, slice_set}
use Rattle.stride_isa.specs.Changes.{applied}
use Rattle.stride_isa.specs.Listing.{Listing}
use Rattle.sc_machine.specs.declared.stop.Stop.{Stop}
use Rattle.sc_machine.specs.declared.stop.Stop.TheVariants.{Read, Write, Update, Enter, Exit, Ended}
use Rattle.sc_machine.specs.Machine.{Printed, is_free_for}
use Rattle.sc_machine.specs.Schedule.{settled_lines}
use Rattle.sc_machine.specs.ThreadRun.{NamesCell}
use Rattle.sc_machine.specs.ThreadStep.{Thread, stop_of, answered, settled}

-- the word that a thread reads at a stop from the row of cells, 0 where it reads none
abbrev pub word_in : Stop → List ℕ → ℕ
word_in (Read cell) cells = slice_index cells cell
word_in (Write cell value) cells = 0
word_in (Update cell change) cells = slice_index cells cell
word_in (Enter monitor) cells = 0
word_in (Exit monitor) cells = 0
word_in (Ended end) cells = 0

-- the row of cells after the instruction at a stop
abbrev pub cells_in : Stop → List ℕ → List ℕ
cells_in (Read cell) cells = cells
cells_in (Write cell value) cells = slice_set cells cell value
cells_in (Update cell change) cells = slice_set cells cell (applied change (slice_index cells cell))
cells_in (Enter monitor) cells = cells
cells_in (Exit monitor) cells = cells
cells_in (Ended end) cells = cells

-- whether a thread may go on at a stop, by the row of holders
abbrev pub may_in : ℕ → Stop → List (Option ℕ) → Bool
may_in t (Read cell) holders = true
may_in t (Write cell value) holders = true
may_in t (Update cell change) holders = true
may_in t (Enter monitor) holders = is_free_for t (slice_index_or holders monitor None)
may_in t (Exit monitor) holders = true
may_in t (Ended end) holders = false

-- the row of holders after the instruction at a stop, made by this thread
abbrev pub holders_in : ℕ → Stop → List (Option ℕ) → List (Option ℕ)
holders_in t (Read cell) holders = holders
holders_in t (Write cell value) holders = holders
holders_in t (Update cell change) holders = holders
holders_in t (Enter monitor) holders = slice_set holders monitor (Some t)
holders_in t (Exit monitor) holders = slice_set holders monitor None
holders_in t (Ended end) holders = holders

-- the stop names a cell or a monitor of the program, and the thread may go on there
pub record Passes (p : Listing) (t : ℕ) (stop : Stop) (holders : List (Option ℕ)) : Type 0 where
  pub named : NamesCell p stop
  pub may : may_in t stop holders ≡ true

-- it names one, but the thread may not go on there: it has ended, or another thread holds the monitor
pub record Stays (p : Listing) (t : ℕ) (stop : Stop) (holders : List (Option ℕ)) : Type 0 where
  pub named : NamesCell p stop
  pub may_not : may_in t stop holders ≡ false

-- a thread, and the rows that it reads and writes
pub record WithShared : Type 0 where
  pub thread : Thread
  pub cells : List ℕ
  pub holders : List (Option ℕ)

-- this thread beside these rows
abbrev pub beside : List ℕ → List (Option ℕ) → Thread → WithShared
beside cells holders s = record { thread = s; cells = cells; holders = holders }

-- the thread after the instruction at this stop, for which it reads the cells
abbrev pub answered_in : Listing → ℕ → ℕ → Stop → WithShared → Thread
answered_in p fuel t stop s = answered p fuel t (word_in stop s.cells) s.thread

-- all after the turn of the thread, which stands at this stop
abbrev pub turn_at : Listing → ℕ → ℕ → Stop → WithShared → WithShared
turn_at p fuel t stop s = record {
  thread = settled p fuel t (answered_in p fuel t stop s);
  cells = cells_in stop s.cells;
  holders = holders_in t stop s.holders;
}

-- all after so many turns of the thread
unfoldable pub turns_by : Listing → ℕ → ℕ → ℕ → WithShared → WithShared
turns_by p fuel t zero s = s
turns_by p fuel t (suc n) s = turn_at p fuel t (stop_of p t (turns_by p fuel t n s).thread) (turns_by p fuel t n s)

-- the lines that the thread prints in so many turns
unfoldable pub lines_by : Listing → ℕ → ℕ → ℕ → WithShared → List Printed
lines_by p fuel t zero s = []
lines_by p fuel t (suc n) s =
    lines_by p fuel t n s ++ settled_lines p fuel t (answered_in p fuel t (stop_of p t (turns_by p fuel t n s).thread) (turns_by p fuel t n s))

-- the thread may go on at the stop where it is now
abbrev pub TakesTurn : Listing → ℕ → WithShared → Type 0
TakesTurn p t s = Passes p t (stop_of p t s.thread) s.holders

-- the thread took so many turns: as many as it was let, or those before it could take no more
pub record TookTurns (p : Listing) (fuel t limit taken : ℕ) (old new : WithShared) : Type 0 where
  pub within : taken ≤ limit
  pub played : new ≡ turns_by p fuel t taken old
  pub each : (k : ℕ) → k < taken → TakesTurn p t (turns_by p fuel t k old)
  pub whole : taken < limit → Stays p t (stop_of p t new.thread) new.holders

-- Lists of thread numbers each of which gives the next event of its thread, such that the event suits what happened so far.
use Rattle.std.proofs.Common.{◌≡◌, ℕ, ◌+◌, List, [], ◌∷◌, Option, Some, None, length}
use Rattle.std.specs.Prelude.{slice_get}
use Rattle.sc_machine.specs.Machine.{put}
use Rattle.interleavings.specs.declared.event.Event.{Event}
use Rattle.interleavings.specs.Events.{ReadOf, WriteOf, TurnOf, read_of, write_of, entered_by, left_by}
use Rattle.interleavings.specs.RunEvents.{Counts}

-- the cells, who holds each monitor, and how many writes and enters there were
pub record World : Type 0 where
  pub cells : ℕ → ℕ
  pub holders : ℕ → Option ℕ
  pub counts : Counts

-- a read meets the cell's value
abbrev pub SuitsRead : Option ReadOf → (ℕ → ℕ) → Type 0
SuitsRead None cells = Unit {0}
SuitsRead (Some read) cells = cells read.cell ≡ read.value

-- a write has the next number of its cell
abbrev pub SuitsWrite : Option WriteOf → (ℕ → ℕ) → Type 0
SuitsWrite None writes = Unit {0}
SuitsWrite (Some write) writes = write.number ≡ writes write.cell + 1

-- an enter has the next turn of its monitor, which nobody holds
abbrev pub SuitsEnter : Option TurnOf → (ℕ → Option ℕ) → (ℕ → ℕ) → Type 0
SuitsEnter None holders enters = Unit {0}
SuitsEnter (Some begun) holders enters = (begun.turn ≡ enters begun.monitor + 1) × (holders begun.monitor ≡ None)

-- an exit has the last turn of its monitor
abbrev pub SuitsExit : Option TurnOf → (ℕ → ℕ) → Type 0
SuitsExit None enters = Unit {0}
SuitsExit (Some left) enters = left.turn ≡ enters left.monitor

-- the event suits what happened so far
pub record Suits (w : World) (event : Event) : Type 0 where
  pub read : SuitsRead (read_of event) w.cells
  pub write : SuitsWrite (write_of event) w.counts.writes
  pub enter : SuitsEnter (entered_by event) w.holders w.counts.enters
  pub left : SuitsExit (left_by event) w.counts.enters

-- the cells after a write, or after none
abbrev pub cells_by : Option WriteOf → (ℕ → ℕ) → ℕ → ℕ
cells_by None cells = cells
cells_by (Some write) cells = put cells write.cell write.value

-- how many writes each cell has had after one, or after none
abbrev pub writes_by : Option WriteOf → (ℕ → ℕ) → ℕ → ℕ
writes_by None writes = writes
writes_by (Some write) writes = put writes write.cell (writes write.cell + 1)

-- how many times each monitor was entered after a turn is begun, or after none is
abbrev pub enters_by : Option TurnOf → (ℕ → ℕ) → ℕ → ℕ
enters_by None enters = enters
enters_by (Some begun) enters = put enters begun.monitor (enters begun.monitor + 1)

-- the monitor that is named is held so afterwards
abbrev pub held_by : Option TurnOf → Option ℕ → (ℕ → Option ℕ) → ℕ → Option ℕ
held_by None holder holders = holders
held_by (Some turn) holder holders = put holders turn.monitor holder

-- what has happened after an event of a thread
abbrev pub world_after : ℕ → Event → World → World
world_after t event w = record {
  cells = cells_by (write_of event) w.cells;
  holders = held_by (entered_by event) (Some t) (held_by (left_by event) None w.holders);
  counts = record { writes = writes_by (write_of event) w.counts.writes; enters = enters_by (entered_by event) w.counts.enters };
}

-- each number of the list gives the next event of its thread, which suits what happened so far, and in the end no event is
-- left
abbrev pub Fits : (ℕ → List Event) → (ℕ → ℕ) → World → List ℕ → Type 0
Fits events done w [] = (t : ℕ) → done t ≡ length (events t)
Fits events done w (t ∷ ts) = (event : Event) × (slice_get (events t) (done t) ≡ Some event) × Suits w event × Fits events (put done t (done t + 1)) (world_after t event w) ts

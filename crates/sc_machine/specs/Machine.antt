-- The sequentially consistent machine (Lamport 1979): all threads over one memory, one instruction of one thread at a
-- time.
use Rattle.std.specs.Prelude.{ℕ, ◌==◌, ◌&&◌, Bool, true, false, if◌then◌else◌, List, [], ◌∷◌, ◌++◌, length, map, Option, Some, None, nat_lt, slice_index_or, slice_set}
use Rattle.stride_isa.specs.Changes.{applied}
use Rattle.stride_isa.specs.Listing.{Listing, start_of}
use Rattle.sc_machine.specs.declared.stop.Stop.{Stop}
use Rattle.sc_machine.specs.declared.stop.Stop.TheVariants.{Read, Write, Update, Enter, Exit, Ended}
use Rattle.sc_machine.specs.ThreadStep.{Thread, start_thread, Row, Goes, Ends, Stands, printed_by, now, moved, answered}

-- a printed line, with the number of the thread that printed it: the digits of a word and a line feed
pub record Printed : Type 0 where
  pub thread : ℕ
  pub line : List ℕ

-- the threads in order of number, the value of each cell, the thread that holds each monitor or none, and the lines
-- printed by all threads in the order of the run
pub record Machine : Type 0 where
  pub threads : List Thread
  pub cells : ℕ → ℕ
  pub holders : ℕ → Option ℕ
  pub transcript : List Printed

-- each thread at its start, each cell at its starting value, and no monitor held
abbrev pub start_machine : Listing → Machine
start_machine p = record { threads = map (λ code. start_thread) p.threads; cells = start_of p; holders = λ monitor. None; transcript = [] }

-- the thread of this number
abbrev pub thread_at : Machine → ℕ → Thread
thread_at m t = slice_index_or m.threads t start_thread

-- the map with another value at one place
abbrev pub put : {X : Type 0} → (ℕ → X) → ℕ → X → ℕ → X
put f place value other = if other == place then value else f other

-- whether no other thread than this one is the holder
abbrev pub is_free_for : ℕ → Option ℕ → Bool
is_free_for t None = true
is_free_for t (Some holder) = holder == t

-- whether a thread may go on at a stop, by the holders of the monitors: it waits while another thread holds the
-- monitor that it enters
abbrev pub may_pass : ℕ → Stop → (ℕ → Option ℕ) → Bool
may_pass t (Read cell) holders = true
may_pass t (Write cell value) holders = true
may_pass t (Update cell change) holders = true
may_pass t (Enter monitor) holders = is_free_for t (holders monitor)
may_pass t (Exit monitor) holders = true
may_pass t (Ended end) holders = false

-- whether a thread may make what comes next
abbrev pub may_make : ℕ → Row → (ℕ → Option ℕ) → Bool
may_make t (Goes pc stack locals printed) holders = true
may_make t (Ends end) holders = true
may_make t (Stands stop) holders = may_pass t stop holders

-- whether a thread is enabled: it is there, has not ended, and may make its next instruction
abbrev pub can : Listing → ℕ → Machine → Bool
can p t m = nat_lt t (length m.threads) && may_make t (now p t (thread_at m t)) m.holders

-- the word that a thread is given at a stop, 0 where it reads none
abbrev pub word_read : Stop → (ℕ → ℕ) → ℕ
word_read (Read cell) cells = cells cell
word_read (Write cell value) cells = 0
word_read (Update cell change) cells = cells cell
word_read (Enter monitor) cells = 0
word_read (Exit monitor) cells = 0
word_read (Ended end) cells = 0

-- the cells after the instruction at a stop
abbrev pub cells_after : Stop → (ℕ → ℕ) → ℕ → ℕ
cells_after (Read cell) cells = cells
cells_after (Write cell value) cells = put cells cell value
cells_after (Update cell change) cells = put cells cell (applied change (cells cell))
cells_after (Enter monitor) cells = cells
cells_after (Exit monitor) cells = cells
cells_after (Ended end) cells = cells

-- the holders of the monitors after the instruction at a stop, made by this thread
abbrev pub holders_after : ℕ → Stop → (ℕ → Option ℕ) → ℕ → Option ℕ
holders_after t (Read cell) holders = holders
holders_after t (Write cell value) holders = holders
holders_after t (Update cell change) holders = holders
holders_after t (Enter monitor) holders = put holders monitor (Some t)
holders_after t (Exit monitor) holders = put holders monitor None
holders_after t (Ended end) holders = holders

-- the machine after the thread makes the shared instruction at which it stands
abbrev pub answered_at : Listing → ℕ → ℕ → Stop → Machine → Machine
answered_at p fuel t stop m = record {
  threads = slice_set m.threads t (answered p fuel t (word_read stop m.cells) (thread_at m t));
  cells = cells_after stop m.cells;
  holders = holders_after t stop m.holders;
  transcript = m.transcript;
}

-- the line of these printed bytes, if there are any
abbrev pub printed_line : ℕ → List ℕ → List Printed
printed_line t [] = []
printed_line t (byte ∷ bytes) = record { thread = t; line = byte ∷ bytes } ∷ []

-- the machine with another state of one thread, and these lines at the end of the transcript
abbrev pub with_thread : ℕ → Thread → List Printed → Machine → Machine
with_thread t s lines m = record m { threads = slice_set m.threads t s; transcript = m.transcript ++ lines }

-- the machine after a local instruction of the thread, which comes to this
abbrev pub moved_by : ℕ → ℕ → Row → Machine → Machine
moved_by fuel t next m = with_thread t (moved fuel next (thread_at m t)) (printed_line t (printed_by next)) m

-- the machine after the thread makes what comes next
abbrev pub stepped_by : Listing → ℕ → ℕ → Row → Machine → Machine
stepped_by p fuel t (Goes pc stack locals printed) m = moved_by fuel t (Goes pc stack locals printed) m
stepped_by p fuel t (Ends end) m = moved_by fuel t (Ends end) m
stepped_by p fuel t (Stands stop) m = answered_at p fuel t stop m

-- the machine after one instruction of the thread, which is enabled
unfoldable pub sc_step : Listing → ℕ → ℕ → Machine → Machine
sc_step p fuel t m = stepped_by p fuel t (now p t (thread_at m t)) m

-- the machine after one instruction of each thread of the list in turn, if each is enabled when it is named
unfoldable pub sc_run : Listing → ℕ → List ℕ → Machine → Option Machine
sc_run p fuel [] m = Some m
sc_run p fuel (t ∷ ts) m = if can p t m then sc_run p fuel ts (sc_step p fuel t m) else None

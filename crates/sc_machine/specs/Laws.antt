-- What holds of every run of the machine, whatever the program is.
use Rattle.std.specs.Prelude.{◌≡◌, ℕ, ◌<◌, ◌≤◌, true, false, List, ◌++◌, length, map, take, replicate, slice_index, slice_index_or, slice_set, Some, None, option_and_then}
use Rattle.std.specs.List.{flat_map}
use Rattle.stride_isa.specs.Limits.{monitor_limit}
use Rattle.stride_isa.specs.Listing.{Listing, cell_count, start_of}
use Rattle.sc_machine.specs.declared.stop.Stop.{Stop}
use Rattle.sc_machine.specs.ThreadStep.{Thread, Row, Stands, start_thread, now, moved, settled, stop_of, answered}
use Rattle.sc_machine.specs.Machine.{Machine, thread_at, may_pass, can}
use Rattle.sc_machine.specs.Schedule.{settled_lines, turn, turned, turns, stuck_place, ready, thread_numbers, run_of, refused_place, finished, replayed, outputs}
use Rattle.sc_machine.specs.Transcript.{transcript_bytes, line_bytes, bytes_of, tagged}
use Rattle.sc_machine.specs.TurnsInARow.{Stays, TakesTurn, WithShared, turns_by, lines_by}

-- the single steps of a schedule do what its whole turns do, after the local starts
abbrev pub TurnsAreSteps : Type 0
TurnsAreSteps = (p : Listing) (fuel : ℕ) (schedule : List ℕ) → run_of p fuel schedule ≡ turns p fuel schedule (ready p fuel)

-- a list is refused at the first member that is not enabled when its turn comes, and at none where each is
abbrev pub RefusedWhereStuck : Type 0
RefusedWhereStuck = (p : Listing) (fuel : ℕ) (schedule : List ℕ) → refused_place p fuel schedule ≡ stuck_place p fuel schedule (ready p fuel)

-- the turns of one list after those of another are those of both lists, if the first can be made
abbrev pub TurnsJoin : Type 0
TurnsJoin = (p : Listing) (fuel : ℕ) (first rest : List ℕ) (m : Machine) → turns p fuel (first ++ rest) m ≡ option_and_then (turns p fuel rest) (turns p fuel first m)

-- where the turns of all members are made, the list is a schedule, and what they come to is its run
abbrev pub MadeAlongTurns : Type 0
MadeAlongTurns = (p : Listing) (fuel : ℕ) (schedule : List ℕ) (m : Machine) → turns p fuel schedule (ready p fuel) ≡ Some m → (refused_place p fuel schedule ≡ None) × (replayed p fuel schedule ≡ Some (finished m))

-- where the turns of a front are made and the next member is not enabled, that member's is the refused place
abbrev pub RefusedAlongTurns : Type 0
RefusedAlongTurns = (p : Listing) (fuel : ℕ) (schedule : List ℕ) (place : ℕ) (m : Machine) → place < length schedule → turns p fuel (take place schedule) (ready p fuel) ≡ Some m → can p (slice_index schedule place) m ≡ false → (refused_place p fuel schedule ≡ Some place) × (replayed p fuel schedule ≡ None)

-- after the local starts each thread has settled by itself, and its lines stand in order of number
abbrev pub StartsSettle : Type 0
StartsSettle = (p : Listing) (fuel : ℕ) → ready p fuel ≡ record {
  threads = map (λ t. settled p fuel t start_thread) (thread_numbers p);
  cells = start_of p;
  holders = λ monitor. None;
  transcript = flat_map (λ t. settled_lines p fuel t start_thread) (thread_numbers p);
}

-- a thread that stands is enabled where it may pass its stop, and its turn is one equation by that stop
abbrev pub TurnByStop : Type 0
TurnByStop = (p : Listing) (fuel t : ℕ) (stop : Stop) (m : Machine) → t < length m.threads → now p t (thread_at m t) ≡ Stands stop → (can p t m ≡ may_pass t stop m.holders) × (turn p fuel t m ≡ turned p fuel t stop m)

-- a thread has fuel left where it has not ended
abbrev pub HasFuel : ℕ → Thread → Type 0
HasFuel fuel s = s.ended ≡ None → s.made < fuel

-- a thread with fuel left where it has not ended has so still after a local instruction
abbrev pub MovedKeepsFuel : Type 0
MovedKeepsFuel = (fuel : ℕ) (r : Row) (s : Thread) → HasFuel fuel s → HasFuel fuel (moved fuel r s)

-- and once it has settled
abbrev pub SettledKeepsFuel : Type 0
SettledKeepsFuel = (p : Listing) (fuel t : ℕ) (s : Thread) → HasFuel fuel s → HasFuel fuel (settled p fuel t s)

-- after a shared instruction a thread has fuel left where that did not end it
abbrev pub AnsweredHasFuel : Type 0
AnsweredHasFuel = (p : Listing) (fuel t word : ℕ) (s : Thread) → HasFuel fuel (answered p fuel t word s)

-- once it has settled a thread has made no fewer instructions than before
abbrev pub SettledMakesNoLess : Type 0
SettledMakesNoLess = (p : Listing) (fuel t : ℕ) (s : Thread) → s.made ≤ (settled p fuel t s).made

-- a thread with fuel left where it has not ended settles at a shared instruction or at its end
abbrev pub SettledStands : Type 0
SettledStands = (p : Listing) (fuel t : ℕ) (s : Thread) → HasFuel fuel s → now p t (settled p fuel t s) ≡ Stands (stop_of p t (settled p fuel t s))

-- the bytes that a thread prints until it settles are appended to its output, and with its tag before each line they
-- are its lines of the transcript
abbrev pub SettledPrints : Type 0
SettledPrints = (p : Listing) (fuel t : ℕ) (s : Thread) → ((settled p fuel t s).out ≡ s.out ++ line_bytes (settled_lines p fuel t s)) × ((bytes : List ℕ) → (settled p fuel t s).out ≡ s.out ++ bytes → tagged t true bytes ≡ transcript_bytes (settled_lines p fuel t s))

-- the output of each thread of a run is what its lines of the transcript say
abbrev pub OutputsAreLines : Type 0
OutputsAreLines = (p : Listing) (fuel : ℕ) (schedule : List ℕ) (m : Machine) → replayed p fuel schedule ≡ Some m → outputs m ≡ map (λ t. bytes_of t m.transcript) (thread_numbers p)

-- the machine has this thread by its number, which stands, and the first cells and the holders of the rows
pub record ShownIn (p : Listing) (t : ℕ) (s : WithShared) (m : Machine) : Type 0 where
  pub there : t < length m.threads
  pub thread : s.thread ≡ thread_at m t
  pub stands : now p t s.thread ≡ Stands (stop_of p t s.thread)
  pub room : cell_count p.decls ≤ length s.cells
  pub cells : (cell : ℕ) → cell < cell_count p.decls → slice_index s.cells cell ≡ m.cells cell
  pub monitors : length s.holders ≡ monitor_limit
  pub holders : (monitor : ℕ) → monitor < monitor_limit → slice_index_or s.holders monitor None ≡ m.holders monitor

-- the machine after so many turns of the thread
pub record AfterTurns (p : Listing) (fuel t n : ℕ) (s : WithShared) (m : Machine) : Type 0 where
  pub machine : Machine
  pub reached : turns p fuel (replicate n t) m ≡ Some machine
  pub threads : machine.threads ≡ slice_set m.threads t (turns_by p fuel t n s).thread
  pub cells : (cell : ℕ) → cell < cell_count p.decls → slice_index (turns_by p fuel t n s).cells cell ≡ machine.cells cell
  pub holders : (monitor : ℕ) → monitor < monitor_limit → slice_index_or (turns_by p fuel t n s).holders monitor None ≡ machine.holders monitor
  pub transcript : machine.transcript ≡ m.transcript ++ lines_by p fuel t n s
  pub refused : Stays p t (stop_of p t (turns_by p fuel t n s).thread) (turns_by p fuel t n s).holders → can p t machine ≡ false

-- turns of one thread in a row, at each of which it may go on, are turns of the machine; where it may not go on then, it is
-- not enabled
abbrev pub TurnsInARow : Type 0
TurnsInARow = (p : Listing) (fuel t n : ℕ) (s : WithShared) (m : Machine) → ShownIn p t s m → ((k : ℕ) → k < n → TakesTurn p t (turns_by p fuel t k s)) → AfterTurns p fuel t n s m

-- what the thread prints in these turns is appended to its output, and is its lines of the transcript
abbrev pub TurnsPrint : Type 0
TurnsPrint = (p : Listing) (fuel t n : ℕ) (s : WithShared) → ((turns_by p fuel t n s).thread.out ≡ s.thread.out ++ line_bytes (lines_by p fuel t n s)) × ((bytes : List ℕ) → (turns_by p fuel t n s).thread.out ≡ s.thread.out ++ bytes → tagged t true bytes ≡ transcript_bytes (lines_by p fuel t n s))

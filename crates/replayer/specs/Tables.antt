-- The table on which a schedule is played, beside the sequentially consistent machine that it shows. Only private clauses
-- cite this module.
use Rattle.std.specs.Prelude.{◌≡◌, ℕ, ◌<◌, ◌≤◌, false, length, map, replicate, slice_index, Some, None}
use Rattle.std.specs.List.{slice_index_or}
use Rattle.stride_isa.specs.Limits.{monitor_limit}
use Rattle.stride_isa.specs.Listing.{cell_count}
use Rattle.sc_machine.specs.Schedule.{turns}
use Rattle.sc_machine.specs.StandingThread.{IsThreadOf}
use Rattle.sc_machine.specs.Machine.{Machine, can}
use Rattle.sc_machine.specs.Transcript.{transcript_bytes}
use Rattle.replayer.specs.declared.player.Player.{Player}
use Rattle.replayer.specs.declared.table.Table.{Table}
use Rattle.replayer.specs.Players.{thread_of}

-- the table has a player for each thread of its program
pub record IsTable (table : Table) : Type 0 where
  pub count : length table.players.items ≡ length table.program.now.threads
  pub room : cell_count table.program.now.decls ≤ length table.cells
  pub monitors : length table.holders ≡ monitor_limit
  pub each : (t : ℕ) (d : Player) → t < length table.players.items → IsThreadOf table.program.now table.fuel t (slice_index_or table.players.items t d).thread

-- the table shows this machine
pub record Shows (table : Table) (m : Machine) : Type 0 where
  pub threads : m.threads ≡ map thread_of table.players.items
  pub cells : (cell : ℕ) → cell < cell_count table.program.now.decls → slice_index table.cells cell ≡ m.cells cell
  pub holders : (monitor : ℕ) → monitor < monitor_limit → slice_index_or table.holders monitor None ≡ m.holders monitor
  pub transcript : table.transcript.items ≡ transcript_bytes m.transcript

-- the table is one of the same program with the same fuel
pub record SameGame (old new : Table) : Type 0 where
  pub program : new.program ≡ old.program
  pub fuel : new.fuel ≡ old.fuel

-- so many turns of a thread in a row, no more than it was let, are turns of the machine, which the table then shows, and where
-- they are fewer the thread is not enabled
pub record TookTurns (old new : Table) (t limit taken : ℕ) (m : Machine) : Type 0 where
  pub within : taken ≤ limit
  pub machine : Machine
  pub reached : turns old.program.now old.fuel (replicate taken t) m ≡ Some machine
  pub shows : Shows new machine
  pub refused : taken < limit → can old.program.now t machine ≡ false

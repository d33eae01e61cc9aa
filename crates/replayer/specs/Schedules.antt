-- What the playing of a schedule comes to. Only private clauses cite this module.
use Rattle.std.specs.Prelude.{◌≡◌, ℕ, ◌<◌, ◌≤◌, List, slice_index, Some, Result, Ok, Err}
use Rattle.sc_machine.specs.Machine.{Machine}
use Rattle.sc_machine.specs.Schedule.{ready, turns}
use Rattle.replayer.specs.declared.replay_error.ReplayError.{ReplayError}
use Rattle.replayer.specs.declared.replay_error.ReplayError.TheVariants as errors
use Rattle.replayer.specs.declared.table.Table.{Table}
use Rattle.replayer.specs.Replays.{IsRefusedAt}
use Rattle.replayer.specs.Tables.{IsTable, SameGame, Shows}

-- the members from one place to another name the same thread
abbrev pub IsRow : List ℕ → ℕ → ℕ → Type 0
IsRow schedule begin end = (k : ℕ) → begin ≤ k → k < end → slice_index schedule k ≡ slice_index schedule begin

-- the table shows what the turns of the schedule come to
pub record PlayedTo (old new : Table) (schedule : List ℕ) : Type 0 where
  pub table : IsTable new
  pub game : SameGame old new
  pub machine : Machine
  pub reached : turns old.program.now old.fuel schedule (ready old.program.now old.fuel) ≡ Some machine
  pub shows : Shows new machine

-- what playing the schedule came to
abbrev pub Plays : Table → Table → List ℕ → Result (Unit {0}) ReplayError → Type 0
Plays old new schedule (Ok done) = PlayedTo old new schedule
Plays old new schedule (Err (errors.NotEnabled place)) = IsRefusedAt old.program.now old.fuel schedule place
Plays old new schedule (Err errors.NoMemory) = Unit {0}

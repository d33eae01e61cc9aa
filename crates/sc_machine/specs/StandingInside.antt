-- What is inside a `StandingThread`. Only its own module cites this one.
use Rattle.std.specs.Prelude.{◌≡◌, ℕ, ◌-◌, ◌*◌, ◌≤◌}
use Rattle.stride_base.specs.Listed.{Listed}
use Rattle.sc_machine.specs.Limits.{line_limit}
use Rattle.sc_machine.specs.ThreadStep.{Stands, now, stop_of}
use Rattle.sc_machine.specs.ThreadRun.{Run, state}

-- the run stands, with room for what it may print yet
pub record IsStanding (run : Run) (printed : Listed ℕ) : Type 0 where
  pub stands : now run.program run.thread (state run printed.items) ≡ Stands (stop_of run.program run.thread (state run printed.items))
  pub room : line_limit * (run.fuel - run.made) ≤ printed.spare

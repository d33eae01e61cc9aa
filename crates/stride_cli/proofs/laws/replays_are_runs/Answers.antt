use Rattle.stride_cli.proofs.ReplaysAreRuns.{replays_are_runs as replays_are_runs_by}
use Rattle.stride_cli.proofs.laws.replays_are_runs.Goals as goal

pub returns : goal.returns
returns c = replays_are_runs_by c.one_reading.ensures (record { runs = c.extensions_are_runs.ensures; fuel = c.fuel_is_in_range.ensures })

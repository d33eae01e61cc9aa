use Rattle.stride_cli.proofs.SimulationsAreRuns.{simulations_are_runs as simulations_are_runs_by}
use Rattle.stride_cli.proofs.laws.simulations_are_runs.Goals as goal

pub returns : goal.returns
returns c = simulations_are_runs_by c.one_reading.ensures (record { followed = c.driven_is_followed.ensures; runs = c.extensions_are_runs.ensures })

use Rattle.stride_cli.proofs.LeastRuns.{events_few}
use Rattle.stride_cli.proofs.recorded.rerun_recorded.Goals as goal

pub returns-in-Ok-clause-few : goal.returns-in-Ok-clause-few
returns-in-Ok-clause-few c = events_few _ c.threads.ensures.kept

use Rattle.std.proofs.lemmas.Result.{IfOk-weaker}
use Rattle.log_format.specs.Bundles.{lists_of}
use Rattle.stride_cli.specs.LimitsSeen.{limits_seen}
use Rattle.stride_cli.proofs.Demonstrations.{live_looks, live_summary}
use Rattle.stride_cli.proofs.RecordedRuns.{logged_steps}
use Rattle.stride_cli.proofs.commands.demonstration.demonstrate_live.Goals as goal

pub summarize-requires : goal.summarize-requires
summarize-requires g c = record { recorded = logged_steps (limits_seen c.of_demonstrations-limits.result) c.in_ok-program.program (lists_of c.in_ok-logs.logs.items) c.in_ok-logs.ensures.recorded }

pub returns-clause-run : goal.returns-clause-run
returns-clause-run g c =
    IfOk-weaker c.summarize.result _ _
    (λ report told.
    live_summary c.args.number c.in_ok-program.program (limits_seen c.of_demonstrations-limits.result) (lists_of c.in_ok-logs.logs.items) c.args.steps.now c.summarize.new.steps c.in_ok-program.ensures.is c.of_demonstrations-limits.ensures c.in_ok-logs.ensures.recorded
    c.recordings_are_runs.ensures.replay c.in_ok-program.ensures.valid.valid c.of_demonstrations-limits.result.some_fuel report.items told)
    c.summarize.ensures.told

pub returns-clause-looks : goal.returns-clause-looks
returns-clause-looks g c =
    live_looks c.args.number c.in_ok-program.program (limits_seen c.of_demonstrations-limits.result) (lists_of c.in_ok-logs.logs.items) c.args.steps.now c.summarize.new.steps c.in_ok-program.ensures.is c.of_demonstrations-limits.ensures c.in_ok-logs.ensures.recorded
    c.summarize.ensures.looks

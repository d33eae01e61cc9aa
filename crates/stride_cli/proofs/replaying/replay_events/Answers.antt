use Rattle.std.proofs.Common.{arith, refl}
use Rattle.stride_cli.specs.Inferring.{Inferred}
use Rattle.stride_cli.proofs.LeastRuns.{schedule_short}
use Rattle.stride_cli.proofs.Replayed.{never_refused}
use Rattle.stride_cli.proofs.replaying.replay_events.Goals as goal

pub replay-requires-clause-some : goal.replay-requires-clause-some
replay-requires-clause-some c = c.requires.again.1.some

pub replay-requires-clause-limit : goal.replay-requires-clause-limit
replay-requires-clause-limit c = c.requires.again.1.most

pub replay-requires-clause-short : goal.replay-requires-clause-short
replay-requires-clause-short c =
    let inferred : Inferred = record { links = c.requires.scheduled.0; schedule = c.args.schedule.now } in
    let short = schedule_short c.extensions_are_whole.ensures c.requires.traces c.requires.again.1.kept inferred c.requires.scheduled.1 in
    omega (arith, short)

pub unreachable-requires : goal.unreachable-requires
unreachable-requires c =
    let inferred : Inferred = record { links = c.requires.scheduled.0; schedule = c.args.schedule.now } in
    never_refused c.extensions_are_runs.ensures c.args.program.now c.args.fuel c.requires.again.0 c.requires.traces inferred c.args.schedule.now _ c.requires.again.1 c.requires.scheduled.1 refl (rw c.in-Err-NotEnabled.field-0-is at c.in-Err-NotEnabled.ensures.run)

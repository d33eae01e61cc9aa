use Rattle.linkage.proofs.GatherSteps.{gathered_start}
use Rattle.linkage.proofs.gathered.Gathered.start.Goals as goal

pub returns : goal.returns
returns c =
    gathered_start c.args.traces.now (record { writes = c.in_ok-starting_writes.field-0; entries = c.in_ok-starting_turns.field-0; exits = c.in_ok-starting_turns-2.field-0 }) c.monitors-monitors.result c.monitors-monitors.ensures.count c.monitors-monitors.ensures.small c.starting_writes.ensures.few
    c.in_ok-starting_writes.ensures.writes.0 c.in_ok-starting_writes.ensures.writes.1 c.in_ok-starting_turns.ensures c.in_ok-starting_turns-2.ensures

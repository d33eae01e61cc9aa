use Rattle.std.proofs.Common.{arith}
use Rattle.linkage.proofs.MarkedTurns.{no_monitor}
use Rattle.linkage.proofs.turns.check_turns.Goals as goal

pub returns-then-monitors-eq0-clause-turns : goal.returns-then-monitors-eq0-clause-turns
returns-then-monitors-eq0-clause-turns g c =
    no_monitor c.args.traces.now c.args.greatest.items c.requires.greatest (omega (arith, c.monitors.ensures.count)) c.requires.numbers

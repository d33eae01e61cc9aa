use Rattle.shared_rule.specs.Passes.{IsPassOf}
use Rattle.shared_rows.proofs.monitor_rows.monitors_are_found_held.Given as goal

abbrev pub invariant-loop-mon : goal.invariant-loop-mon
invariant-loop-mon g l = IsPassOf l.hall.shared l.c.pass

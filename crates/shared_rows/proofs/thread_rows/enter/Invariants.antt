use Rattle.shared_rule.specs.Passes.{IsPassOf}
use Rattle.shared_rows.proofs.thread_rows.enter.Given as goal

abbrev pub invariant-loop : goal.invariant-loop
invariant-loop g l = IsPassOf l.hall.shared l.walker.pass

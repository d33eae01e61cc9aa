use Rattle.shared_rule.specs.Passes.{IsPassOf}
use Rattle.shared_rows.proofs.thread_rows.go_round.Given as goal

abbrev pub invariant-loop-turn : goal.invariant-loop-turn
invariant-loop-turn g l = IsPassOf l.hall.shared l.walker.pass

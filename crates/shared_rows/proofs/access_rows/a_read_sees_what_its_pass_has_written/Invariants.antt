use Rattle.shared_rule.specs.Passes.{IsPassOf}
use Rattle.shared_rows.proofs.access_rows.a_read_sees_what_its_pass_has_written.Given as goal

abbrev pub invariant-loop-k : goal.invariant-loop-k
invariant-loop-k g l = IsPassOf l.hall.shared l.a.pass

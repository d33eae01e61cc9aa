use Rattle.shared_rule.specs.Passes.{IsPassOf}
use Rattle.shared_rows.proofs.access_rows.an_update_falls_between_two_reads.Given as goal

abbrev pub invariant-loop-change : goal.invariant-loop-change
invariant-loop-change g l = IsPassOf l.hall.shared l.a.pass × IsPassOf l.hall.shared l.b.pass

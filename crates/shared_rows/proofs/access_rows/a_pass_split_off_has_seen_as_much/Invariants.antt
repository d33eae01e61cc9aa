use Rattle.shared_rule.specs.Passes.{IsPassOf}
use Rattle.shared_rows.proofs.access_rows.a_pass_split_off_has_seen_as_much.Given as goal

abbrev pub invariant-loop-k : goal.invariant-loop-k
invariant-loop-k g l = IsPassOf l.hall.shared l.first.pass × IsPassOf l.hall.shared l.writer.pass

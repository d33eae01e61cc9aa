use Rattle.shared_rule.specs.Passes.{IsPassOf, view_of}
use Rattle.write_turns.proofs.Tried.{HasTried}
use Rattle.write_turns.proofs.claiming.wait_to_take.Given as goal

abbrev pub invariant-loop : goal.invariant-loop
invariant-loop g l = record {
  iterator : (goal.iterator-loop g).can_next l.iterator' × (goal.iterator-loop g).is_finite l.iterator';
  pass : IsPassOf l.shared l.pass;
  tried : HasTried l.cell (view_of l.fn.pass) (view_of l.pass);
}

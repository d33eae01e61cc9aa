use Rattle.shared_rule.specs.Passes.{IsPassOf, view_of}
use Rattle.recorder.proofs.Waiting.{IsWaiting}
use Rattle.recorder.proofs.accesses.wait_for_bound.Given as goal

abbrev pub invariant-loop : goal.invariant-loop
invariant-loop g l = record {
  iterator : (goal.iterator-loop g).can_next l.iterator' × (goal.iterator-loop g).is_finite l.iterator';
  pass : IsPassOf l.shared l.pass;
  waiting : IsWaiting (view_of l.fn.pass) (view_of l.pass);
}

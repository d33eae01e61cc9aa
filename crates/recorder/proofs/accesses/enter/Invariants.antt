use Rattle.std.proofs.Common.{◌<◌}
use Rattle.shared_rule.specs.Passes.{IsPassOf, view_of}
use Rattle.recorder.proofs.Looking.{IsLooking}
use Rattle.recorder.proofs.accesses.enter.Given as goal

abbrev pub invariant-loop : goal.invariant-loop
invariant-loop g l = record {
  iterator : (goal.iterator-loop g).can_next l.iterator' × (goal.iterator-loop g).is_finite l.iterator';
  pass : IsPassOf l.shared l.pass;
  looking : IsLooking l.mon l.looks (view_of l.fn.pass) (view_of l.pass);
  patient : l.looks < l.patience;
}

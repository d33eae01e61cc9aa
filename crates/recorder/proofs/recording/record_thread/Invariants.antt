use Rattle.std.proofs.Common.{◌-◌}
use Rattle.sc_machine.specs.ThreadRun.{run_of}
use Rattle.shared_rule.specs.Passes.{IsPassOf, view_of}
use Rattle.recorder.proofs.Recorded.{IsUnderWay}
use Rattle.recorder.proofs.recording.record_thread.Given as goal

abbrev pub invariant-instructions : goal.invariant-instructions
invariant-instructions g l = record {
  pass : IsPassOf l.shared l.pass;
  under_way : IsUnderWay l.fn.run.program l.fn.run.fuel l.thread (view_of l.fn.pass) (run_of l.control l.frame) l.out l.log l.turns (view_of l.pass);
}

abbrev pub decreases-instructions : goal.decreases-instructions
decreases-instructions g l = l.control.fuel - l.control.made

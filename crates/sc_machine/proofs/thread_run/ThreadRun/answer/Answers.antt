use Rattle.std.proofs.Common.{subst}
use Rattle.std.specs.Prelude.{unwrap_or}
use Rattle.sc_machine.specs.ThreadRun.{IsAnswered, run_of}
use Rattle.sc_machine.proofs.thread_run.ThreadRun.answer.Goals as goal

pub returns-clause-state : goal.returns-clause-state
returns-clause-state c = subst (λ r. IsAnswered r (run_of c.answer.new.self c.answer.new.frame) (unwrap_or c.args.word 0)) c.self.view_is c.answer.ensures.state

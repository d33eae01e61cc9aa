use Rattle.std.proofs.Common.{refl, sym, ◌∙◌, ap, arith}
use Rattle.stride_isa.specs.Listing.{op_at}
use Rattle.sc_machine.specs.Operands.{operands}
use Rattle.sc_machine.specs.ThreadRun.{run_of}
use Rattle.sc_machine.specs.ThreadStep.{done_stack}
use Rattle.sc_machine.proofs.Completed.{went_completed}
use Rattle.sc_machine.proofs.Inside.{is_run_after_answer, spent, unspent}
use Rattle.sc_machine.proofs.RanOn.{length-operands}
use Rattle.sc_machine.proofs.Steps.{settled-ended}
use Rattle.sc_machine.proofs.control.Control.go_on.Goals as goal

pub invariant_of-self : goal.invariant_of-self
invariant_of-self c =
    let done = c.completed-next.ensures.stack ∙ ap (λ word. done_stack (op_at c.self.inside.task.program.now c.self.inside.task.thread c.self.inside.at.pc) (operands c.args.frame.now.words c.self.inside.at.top.depth) word) c.unwrap_or.ensures in
    is_run_after_answer _ _ _ _ _ _ _ _ _ _ _ _ _ _ _ _ c.args.word (ap (λ s. run_of s c.args.frame.now) c.self.view_is) c.self.invariant c.requires.word c.completed-next.ensures.fine (length-operands _ _ (omega arith)) (length-operands _ _ (omega arith)) c.completed-next.ensures.pc c.completed-next.ensures.made done (λ e. spent _ _ (omega arith))

pub run_on-ended-requires-clause-run : goal.run_on-ended-requires-clause-run
run_on-ended-requires-clause-run c =
    let done = c.completed-next.ensures.stack ∙ ap (λ word. done_stack (op_at c.self.inside.task.program.now c.self.inside.task.thread c.self.inside.at.pc) (operands c.args.frame.now.words c.self.inside.at.top.depth) word) c.unwrap_or.ensures in
    is_run_after_answer _ _ _ _ _ _ _ _ _ _ _ _ _ _ _ _ c.args.word (ap (λ s. run_of s c.args.frame.now) c.self.view_is) c.self.invariant c.requires.word c.completed-next.ensures.fine (length-operands _ _ (omega arith)) (length-operands _ _ (omega arith)) c.completed-next.ensures.pc c.completed-next.ensures.made done (λ e. unspent _ _ _ refl (omega arith))

pub returns-then-next-self-clause-state : goal.returns-then-next-self-clause-state
returns-then-next-self-clause-state c =
    let done = c.completed-next.ensures.stack ∙ ap (λ word. done_stack (op_at c.self.inside.task.program.now c.self.inside.task.thread c.self.inside.at.pc) (operands c.args.frame.now.words c.self.inside.at.top.depth) word) c.unwrap_or.ensures in
    went_completed _ _ _ _ _ _ _ _ _ _ _ _ _ _ _ _ _ _ (ap (λ s. run_of s c.args.frame.now) c.self.view_is) c.completed-next.ensures.pc c.completed-next.ensures.made done c.completed-next.ensures.held (spent _ _ (omega arith)) (sym (settled-ended _ _ _ _ refl))

use Rattle.std.proofs.Common.{◌∙◌, ap, arith}
use Rattle.stride_isa.specs.Listing.{op_at}
use Rattle.sc_machine.specs.Operands.{operands}
use Rattle.sc_machine.specs.ThreadRun.{run_of}
use Rattle.sc_machine.specs.ThreadStep.{done_stack}
use Rattle.sc_machine.proofs.Inside.{is_run_after_answer, spent, unspent}
use Rattle.sc_machine.proofs.RanOn.{length-operands}
use Rattle.sc_machine.proofs.control.Control.answer.Goals as goal

pub invariant_of-self : goal.invariant_of-self
invariant_of-self c =
    let done = c.completed-self-inside.ensures.stack ∙ ap (λ word. done_stack (op_at c.self.inside.task.program.now c.self.inside.task.thread c.self.inside.at.pc) (operands c.args.frame.now.words c.self.inside.at.top.depth) word) c.unwrap_or.ensures in
    is_run_after_answer _ _ _ _ _ _ _ _ _ _ _ _ _ _ _ _ c.args.word (ap (λ s. run_of s c.args.frame.now) c.self.view_is) c.self.invariant c.requires c.completed-self-inside.ensures.fine (length-operands _ _ (omega arith)) (length-operands _ _ (omega arith)) c.completed-self-inside.ensures.pc c.completed-self-inside.ensures.made done (λ e. c.out_of_steps-self-inside.ensures ∙ spent _ _ (omega arith))

pub invariant_of-self-else-self : goal.invariant_of-self-else-self
invariant_of-self-else-self c =
    let done = c.completed-self-inside.ensures.stack ∙ ap (λ word. done_stack (op_at c.self.inside.task.program.now c.self.inside.task.thread c.self.inside.at.pc) (operands c.args.frame.now.words c.self.inside.at.top.depth) word) c.unwrap_or.ensures in
    is_run_after_answer _ _ _ _ _ _ _ _ _ _ _ _ _ _ _ _ c.args.word (ap (λ s. run_of s c.args.frame.now) c.self.view_is) c.self.invariant c.requires c.completed-self-inside.ensures.fine (length-operands _ _ (omega arith)) (length-operands _ _ (omega arith)) c.completed-self-inside.ensures.pc c.completed-self-inside.ensures.made done (λ e. unspent _ _ _ e (omega arith))

use Rattle.std.proofs.Common.{◌∙◌, ap, sym}
use Rattle.std.specs.Option.{is_some}
use Rattle.sc_machine.specs.Running.{thread_with}
use Rattle.sc_machine.specs.ThreadRun.{RunControl, run_of, state}
use Rattle.sc_machine.proofs.Turning.{no_end, took_none, took_turns}
use Rattle.sc_machine.proofs.control.Control.turns.Goals as goal

pub returns-then-is_some-clause-turns : goal.returns-then-is_some-clause-turns
returns-then-is_some-clause-turns c =
    took_none _ _ _ _ _ (ap (λ (r : RunControl). is_some r.ended) (sym c.self.view_is) ∙ sym c.is_some.ensures ∙ c.if-is_some.true)

pub returns-clause-turns : goal.returns-clause-turns
returns-clause-turns c =
    let view = c.self.view_is in
    let none = no_end _ (sym c.is_some.ensures ∙ c.if-is_some.false) in
    let begun = ap (λ e. thread_with e c.self.inside.at c.args.frame.now.words c.args.frame.now.locals c.args.frame.now.held c.args.out.now.items) (sym none) in
    took_turns _ _ _ _ _ _ _ _ _ c.args.out.now.items _ c.run_turns-left.ensures.ran
    (ap (λ (r : RunControl). r.program) view) (ap (λ (r : RunControl). r.fuel) view) (ap (λ (r : RunControl). r.thread) view) (begun ∙ ap (λ (r : RunControl). state (run_of r c.args.frame.now) c.args.out.now.items) view)
    c.requires.stands

use Rattle.std.proofs.Common.{◌∙◌, sym, ap}
use Rattle.std.specs.Option.{is_some}
use Rattle.sc_machine.specs.ThreadRun.{RunControl}
use Rattle.sc_machine.proofs.Steps.{settled-ended}
use Rattle.sc_machine.proofs.control.Control.settle.Goals as goal

pub returns-then-is_some-clause-state : goal.returns-then-is_some-clause-state
returns-then-is_some-clause-state c =
    sym (settled-ended _ _ _ _ (ap (λ (r : RunControl). is_some r.ended) (sym c.self.view_is) ∙ sym c.is_some.ensures ∙ c.if-is_some.true))

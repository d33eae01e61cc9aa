use Rattle.std.proofs.Common.{◌∙◌, ap, unwrap_or}
use Rattle.sc_machine.specs.StandingThread.{standing_after}
use Rattle.sc_machine.proofs.GoingOn.{went_on}
use Rattle.sc_machine.proofs.standing_thread.StandingThread.answer.Goals as goal

pub returns : goal.returns
returns c =
    went_on c.self.inside.run c.go_on.new.self c.self.inside.printed c.go_on.new.out (unwrap_or c.args.word 0) c.go_on.ensures.state c.go_on.ensures.same
    ∙ ap (standing_after (unwrap_or c.args.word 0)) c.self.view_is

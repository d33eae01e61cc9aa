use Rattle.std.proofs.Common.{◌∙◌, ◌++◌, ap, true}
use Rattle.sc_machine.specs.StandingThread.{Standing}
use Rattle.sc_machine.specs.ThreadStep.{start_thread}
use Rattle.sc_machine.specs.Transcript.{tagged}
use Rattle.replayer.proofs.Going.{settled_tagged}
use Rattle.replayer.proofs.player.Player.start.Goals as goal

pub returns-clause-printed : goal.returns-clause-printed
returns-clause-printed c =
    c.in_ok-tell.ensures
    ∙ ap (λ n. c.args.transcript.now.items ++ tagged n true c.printed.result.now) (ap (λ (s : Standing). s.number) c.in_ok-thread.ensures)
    ∙ ap (λ lines. c.args.transcript.now.items ++ lines)
    (settled_tagged c.settled_prints.ensures c.args.program.now c.args.fuel c.args.number start_thread c.printed.result.now (c.printed.ensures ∙ ap (λ (s : Standing). s.state.out) c.in_ok-thread.ensures))

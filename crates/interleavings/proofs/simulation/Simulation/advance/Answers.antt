use Rattle.std.proofs.Common.{sym, ◌∙◌, ap}
use Rattle.std.specs.Option.{option_map}
use Rattle.sc_machine.specs.StandingThread.{Standing}
use Rattle.interleavings.specs.CoreShows.{step_seen}
use Rattle.interleavings.specs.SimulationShows.{gone_on}
use Rattle.interleavings.proofs.Advancing.{ended_shown, may_happen, may_go_on, advanced, same_thread}
use Rattle.interleavings.proofs.simulation.Simulation.advance.Goals as goal

pub returns-in_default : goal.returns-in_default
returns-in_default c = λ g d shows.
    ended_shown g c.args.self.now d c.args.thread c.index.result.now shows c.requires.thread c.index.ensures c.index-2.result.now c.stop-stop.result c.index-2.ensures c.stop-stop.ensures.stop
    (sym (ap (option_map step_seen) c.in_default.is) ∙ c.next_step.ensures)

pub happen-requires : goal.happen-requires
happen-requires c =
    may_happen c.requires.goes.setting c.args.self.now c.requires.goes.drive c.args.thread c.index.result.now c.requires.goes.shows c.requires.thread c.index.ensures c.index-2.result.now c.stop-stop.result c.in-Some.step c.index-2.ensures c.stop-stop.ensures.names_cell
    (sym (ap (option_map step_seen) c.in-Some.is) ∙ c.next_step.ensures)
    c.requires.goes.few

pub go_on-requires-clause-suits : goal.go_on-requires-clause-suits
go_on-requires-clause-suits c =
    rw (same_thread c.args.self.now.threads.items c.args.thread c.index_mut.result.now c.index.result.now c.requires.thread c.index_mut.ensures.value c.index.ensures)
    (may_go_on c.requires.goes.setting c.args.self.now c.requires.goes.drive c.args.thread c.index.result.now c.requires.goes.shows c.requires.thread c.index.ensures c.index-2.result.now c.stop-stop.result c.in-Some.step c.in_ok-finished.finished c.requires.goes.reached c.index-2.ensures c.stop-stop.ensures.stop
    (sym (ap (option_map step_seen) c.in-Some.is) ∙ c.next_step.ensures)
    (c.in_ok-finished.ensures.finished _ c.requires.goes.shows.state))

pub returns : goal.returns
returns c = λ g d shows.
    advanced g c.args.self.now d c.args.thread c.index.result.now shows c.requires.thread c.index.ensures c.index-2.result.now c.index-3.result.now c.stop-stop.result c.in-Some.step c.happen.new.self c.in_ok-finished.finished c.go_on.new.thread c.index-2.ensures c.stop-stop.ensures.stop
    (sym (ap (option_map step_seen) c.in-Some.is) ∙ c.next_step.ensures)
    c.in_ok-finished.ensures.shape (c.in_ok-finished.ensures.shows _ shows.state) (c.in_ok-finished.ensures.finished _ shows.state) c.index-3.ensures
    (c.go_on.ensures ∙ ap (λ (s : Standing). gone_on s c.in_ok-finished.finished c.args.self.now.patience c.index-3.result.now.looks)
    (same_thread c.args.self.now.threads.items c.args.thread c.index_mut.result.now c.index.result.now c.requires.thread c.index_mut.ensures.value c.index.ensures))

use Rattle.std.proofs.Common.{◌∙◌, sym}
use Rattle.std.proofs.lemmas.Grind.{get_or_default_zero}
use Rattle.interleavings.proofs.Going.{follow_none, follow_goes, follow_more}
use Rattle.interleavings.proofs.simulation.Simulation.follow.Goals as goal

pub loop-thread-init : goal.loop-thread-init
loop-thread-init c = follow_none c.args.self.now c.args.order.now

pub advance-requires-clause-goes : goal.advance-requires-clause-goes
advance-requires-clause-goes c =
    follow_goes c.args.self.now c.loop-thread.self c.args.order.now c.loop-thread.thread-index c.loop-thread.invariant c.requires.goes c.requires.known c.loop-thread-test.true

pub loop-thread-preserved : goal.loop-thread-preserved
loop-thread-preserved c =
    follow_more c.args.self.now c.loop-thread.self c.args.order.now c.loop-thread.thread-index c.loop-thread.invariant c.advance.new.self c.from.result c.loop-thread-test.true
    (c.from.ensures ∙ sym (get_or_default_zero c.args.order.now c.loop-thread.thread-index c.from.result c.loop-thread-test.true))
    c.in_ok-advance.ensures

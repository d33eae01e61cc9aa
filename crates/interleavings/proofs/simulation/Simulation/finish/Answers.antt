use Rattle.std.proofs.Common.{◌∙◌, sym, arith}
use Rattle.interleavings.proofs.Going.{finish_more, finish_stops, finish_out}
use Rattle.interleavings.proofs.simulation.Simulation.finish.Goals as goal

pub returns-then-not-has_left : goal.returns-then-not-has_left
returns-then-not-has_left c = λ g d shows.
    let half = c.loop-step.invariant g d shows in
    finish_stops g c.loop-step.self c.args.rest c.args.thread c.loop-step._step d half (sym c.if-not-has_left.true ∙ c.has_left.ensures g half.drive half.shows)

pub loop-step-preserved : goal.loop-step-preserved
loop-step-preserved c = λ g d shows.
    let half = c.loop-step.invariant g d shows in
    finish_more g c.loop-step.self c.args.rest c.args.thread c.loop-step._step d half c.advance.new.self
    (omega (arith, c.requires.thread, shows.count))
    (omega (arith, c.loop-step-test.true, shows.fuel))
    (sym c.if-not-has_left.false ∙ c.has_left.ensures g half.drive half.shows)
    c.in_ok-advance.ensures

pub returns : goal.returns
returns c = λ g d shows.
    finish_out g c.loop-step.self c.args.rest c.args.thread c.loop-step._step d (c.loop-step.invariant g d shows)
    (omega (arith, c.loop-step-test.false, shows.fuel))

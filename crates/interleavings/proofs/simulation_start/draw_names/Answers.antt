use Rattle.interleavings.proofs.Begins.{can_draw, draw_more, drawn_by, same_shape}
use Rattle.interleavings.proofs.simulation_start.draw_names.Goals as goal

pub happen-requires : goal.happen-requires
happen-requires c = can_draw c.args.core.now c.loop-who.core c.args.threads c.loop-who.who c.requires c.loop-who.invariant.0 c.loop-who-test.true c.loop-who.invariant.1

pub loop-who-preserved : goal.loop-who-preserved
loop-who-preserved c = (
  same_shape c.args.core.now c.loop-who.core c.happen.new.self c.loop-who.invariant.0 c.in_ok-happen.ensures.shape,
  λ starts shows. draw_more c.happen.new.self starts c.loop-who.who (c.in_ok-happen.ensures.shows (drawn_by starts c.loop-who.who) (c.loop-who.invariant.1 starts shows)),
)

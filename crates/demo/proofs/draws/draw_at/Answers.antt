use Rattle.std.proofs.Common.{rules, arith}
use Rattle.demo.proofs.DrawLemmas.{draw-more, draw-zero}
use Rattle.demo.proofs.draws.draw_at.Goals as goal

pub loop-init : goal.loop-init
loop-init c = record { small = omega arith; is = rw draw-zero (search rules) }

pub loop-preserved : goal.loop-preserved
loop-preserved c = record { small = search rules; is = rw draw-more (grind arith) }

use Rattle.std.proofs.Common.{◌∙◌, arith}
use Rattle.interleavings.proofs.LetGo.{turned_over}
use Rattle.interleavings.proofs.step_effects.let_go.Goals as goal

pub loop-turn-preserved : goal.loop-turn-preserved
loop-turn-preserved c = c.turn_over.ensures ∙ turned_over c.args.held.now c.args.mon c.loop-turn._turn (omega (arith, c.len-turn-end.ensures.value)) c.loop-turn.held c.loop-turn.invariant

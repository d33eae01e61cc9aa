use Rattle.std.proofs.Common.{◌∙◌, length, sym, arith}
use Rattle.event_order.proofs.Waiting.{tallied_all, tallied_none}
use Rattle.event_order.proofs.front.tally.Goals as goal

pub returns : goal.returns
returns c = λ slot. c.loop-from.invariant slot ∙ tallied_all c.args.deeds.now c.loop-from.from slot (λ thread. let most = c.longest-longest.ensures.longest thread in omega arith)

pub loop-from-init : goal.loop-from-init
loop-from-init c = λ slot. c.in_ok-table.ensures slot ∙ sym (tallied_none c.args.deeds.now slot (length c.args.deeds.now))

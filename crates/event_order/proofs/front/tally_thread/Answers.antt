use Rattle.std.proofs.Common.{arith}
use Rattle.event_order.proofs.Waiting.{part_all, part_few, part_more}
use Rattle.event_order.proofs.front.tally_thread.Goals as goal

pub loop-deed-preserved : goal.loop-deed-preserved
loop-deed-preserved c = λ slot.
    let raised = c.in_ok-raise.ensures slot in
    let before = c.loop-deed.invariant slot in
    let more = part_more c.args.deeds.now c.args.from c.args.to c.args.thread c.part-deed-items.result.now c.part-deed-items.ensures.part slot c.loop-deed.deed-index _ c.gives.result c.loop-deed-test.true c.gives.ensures in
    omega arith

pub raise-requires : goal.raise-requires
raise-requires c = λ slot is.
    let before = c.loop-deed.invariant slot in
    let few = part_few c.args.deeds.now c.args.from c.args.to c.args.thread c.part-deed-items.result.now c.part-deed-items.ensures.part slot c.loop-deed.deed-index (omega (arith, c.loop-deed-test.true)) in
    let start = c.requires.few slot in
    let size = c.part-deed-items.ensures.few in
    omega arith

pub returns : goal.returns
returns c = λ slot.
    let all = part_all c.args.deeds.now c.args.from c.args.to c.args.thread c.part-deed-items.result.now c.part-deed-items.ensures.part slot c.loop-deed.deed-index c.requires.order (omega (arith, c.loop-deed-test.false)) in
    let counts = c.loop-deed.invariant slot in
    omega arith

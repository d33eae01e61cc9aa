use Rattle.std.proofs.Common.{length, arith}
use Rattle.stride_isa.specs.Limits.{fuel_limit}
use Rattle.event_order.specs.Fronts.{tallied}
use Rattle.event_order.proofs.Waiting.{tallied_most, upto_more}
use Rattle.event_order.proofs.front.tally_burst.Goals as goal

pub tally_thread-requires-clause-few : goal.tally_thread-requires-clause-few
tally_thread-requires-clause-few c = λ slot.
    let now = c.loop-thread.invariant slot in
    let before = c.requires.before slot in
    let some = tallied_most c.args.deeds.now c.args.to slot c.loop-thread.thread fuel_limit c.threads-thread-end.ensures.few in
    let all = tallied_most c.args.deeds.now c.args.from slot (length c.args.deeds.now) fuel_limit c.threads-thread-end.ensures.few in
    omega (arith, c.loop-thread-test.true, c.threads-thread-end.ensures.small, c.threads-thread-end.ensures.count)

pub loop-thread-preserved : goal.loop-thread-preserved
loop-thread-preserved c = λ slot.
    let now = c.loop-thread.invariant slot in
    let step = c.in_ok-tally_thread.ensures slot in
    let from = upto_more (tallied c.args.deeds.now c.args.from slot) c.loop-thread.thread in
    let to = upto_more (tallied c.args.deeds.now c.args.to slot) c.loop-thread.thread in
    omega arith

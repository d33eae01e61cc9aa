use Rattle.std.proofs.Common.{arith}
use Rattle.event_order.specs.Deeds.{size}
use Rattle.event_order.proofs.Waiting.{upto_more}
use Rattle.event_order.proofs.deeds.Deeds.total.Goals as goal

pub loop-thread-preserved : goal.loop-thread-preserved
loop-thread-preserved c = record {
  total = (let more = upto_more (size c.args.self.now) c.loop-thread.thread in omega arith);
  few = omega arith;
}

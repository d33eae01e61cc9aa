use Rattle.std.proofs.Common.{◌≡◌, arith, ap, sym, subst, length}
use Rattle.event_order.specs.Backs.{AreFirstsBefore}
use Rattle.event_order.specs.Fronts.{done_of}
use Rattle.event_order.specs.Tables.{entry, rows_of}
use Rattle.event_order.proofs.Firsts.{firsts_all}
use Rattle.event_order.proofs.backs.find_firsts.Goals as goal

pub returns : goal.returns
returns c =
    let last : c.loop-thread.thread ≡ length c.args.deeds.now = (let over = c.loop-thread-test.false in let count = c.threads-thread-end.ensures.count in let most = c.loop-thread.auto.thread-end in omega arith) in
    firsts_all c.args.deeds.now (done_of c.args.done.now) (entry (rows_of c.loop-thread.firsts.rows.items))
    (subst (λ (t : Rattle.std.proofs.Common.ℕ). AreFirstsBefore c.args.deeds.now (done_of c.args.done.now) t 0 (entry (rows_of c.loop-thread.firsts.rows.items))) last c.loop-thread.invariant)

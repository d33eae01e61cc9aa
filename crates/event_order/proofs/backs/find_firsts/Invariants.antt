use Rattle.event_order.specs.Backs.{AreFirstsBefore}
use Rattle.event_order.specs.Fronts.{done_of}
use Rattle.event_order.specs.Tables.{entry, rows_of}
use Rattle.event_order.proofs.backs.find_firsts.Given as goal

abbrev pub invariant-loop-thread : goal.invariant-loop-thread
invariant-loop-thread l = AreFirstsBefore l.deeds (done_of l.done) l.thread 0 (entry (rows_of l.firsts.rows.items))

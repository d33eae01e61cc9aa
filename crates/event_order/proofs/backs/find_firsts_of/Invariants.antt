use Rattle.event_order.specs.Backs.{AreFirstsBefore}
use Rattle.event_order.specs.Fronts.{done_of}
use Rattle.event_order.specs.Tables.{entry, rows_of}
use Rattle.event_order.proofs.backs.find_firsts_of.Given as goal

abbrev pub invariant-loop-place : goal.invariant-loop-place
invariant-loop-place l = AreFirstsBefore l.deeds (done_of l.done) l.thread l.place (entry (rows_of l.firsts.rows.items))

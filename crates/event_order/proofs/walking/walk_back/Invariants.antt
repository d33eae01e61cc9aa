use Rattle.event_order.specs.Backs.{IsWalk, unmarked_count}
use Rattle.event_order.specs.Fronts.{done_of}
use Rattle.event_order.specs.Tables.{entry, rows_of}
use Rattle.event_order.proofs.walking.walk_back.Given as goal

abbrev pub invariant-loop-again : goal.invariant-loop-again
invariant-loop-again l = IsWalk l.deeds (done_of l.done) l.fn.first l.met.items (entry (rows_of l.marks.rows.items)) l.at

abbrev pub decreases-loop-again : goal.decreases-loop-again
decreases-loop-again l = unmarked_count l.deeds (entry (rows_of l.marks.rows.items))

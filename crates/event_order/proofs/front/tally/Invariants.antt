use Rattle.std.proofs.Common.{◌≡◌, ◌-◌, length}
use Rattle.event_order.specs.Fronts.{tallied}
use Rattle.event_order.specs.Sums.{upto}
use Rattle.event_order.specs.Tables.{counted, rows_of}
use Rattle.event_order.specs.declared.slot.Slot.{Slot}
use Rattle.event_order.proofs.front.tally.Given as goal

abbrev pub invariant-loop-from : goal.invariant-loop-from
invariant-loop-from l = (slot : Slot) → counted (rows_of l.table.rows.items) slot ≡ upto (tallied l.deeds l.from slot) (length l.deeds)

abbrev pub decreases-loop-from : goal.decreases-loop-from
decreases-loop-from l = l.longest - l.from

use Rattle.std.proofs.Common.{◌≡◌, ◌+◌}
use Rattle.event_order.specs.Fronts.{tallied}
use Rattle.event_order.specs.Sums.{upto}
use Rattle.event_order.specs.Tables.{counted, rows_of}
use Rattle.event_order.specs.declared.slot.Slot.{Slot}
use Rattle.event_order.proofs.front.tally_burst.Given as goal

abbrev pub invariant-loop-thread : goal.invariant-loop-thread
invariant-loop-thread l = (slot : Slot) → counted (rows_of l.table.rows.items) slot + upto (tallied l.deeds l.from slot) l.thread ≡ counted (rows_of l.initial.table.rows.items) slot + upto (tallied l.deeds l.to slot) l.thread

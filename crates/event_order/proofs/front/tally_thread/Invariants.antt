use Rattle.std.proofs.Common.{◌≡◌, ◌+◌}
use Rattle.std.specs.Prelude.{min}
use Rattle.event_order.specs.Deeds.{size}
use Rattle.event_order.specs.Fronts.{awaited, none_done, tallied}
use Rattle.event_order.specs.Sums.{upto}
use Rattle.event_order.specs.Tables.{counted, rows_of}
use Rattle.event_order.specs.declared.slot.Slot.{Slot}
use Rattle.event_order.proofs.front.tally_thread.Given as goal

abbrev pub invariant-loop-deed : goal.invariant-loop-deed
invariant-loop-deed l = (slot : Slot) → counted (rows_of l.table.rows.items) slot + tallied l.deeds l.from slot l.thread ≡ counted (rows_of l.initial.table.rows.items) slot + upto (awaited l.deeds none_done slot l.thread) (min l.from (size l.deeds l.thread) + l.deed-index)

use Rattle.std.proofs.Common.{◌≡◌}
use Rattle.event_order.specs.Tables.{counted, rows_of}
use Rattle.event_order.specs.declared.slot.Slot.{Slot}
use Rattle.event_order.proofs.table.Counts.with_room.Given as goal

abbrev pub invariant-loop-length : goal.invariant-loop-length
invariant-loop-length l = (slot : Slot) → counted (rows_of l.rows.items) slot ≡ 0

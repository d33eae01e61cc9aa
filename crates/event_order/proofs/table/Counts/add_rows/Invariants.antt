use Rattle.std.proofs.Common.{◌≡◌, ◌+◌, ◌-◌, length}
use Rattle.event_order.specs.Tables.{counted, rows_of}
use Rattle.event_order.specs.declared.slot.Slot.{Slot}
use Rattle.event_order.proofs.table.Counts.add_rows.Given as goal

abbrev pub invariant-loop-alloc : goal.invariant-loop-alloc
invariant-loop-alloc l = (slot : Slot) → counted (rows_of l.self.rows.items) slot ≡ counted (rows_of l.initial.self.rows.items) slot

abbrev pub decreases-loop-alloc : goal.decreases-loop-alloc
decreases-loop-alloc l = l.row + 1 - length l.self.rows.items

use Rattle.std.proofs.Common.{◌≡◌, ◌+◌, ◌-◌, length}
use Rattle.event_order.specs.Tables.{entry, rows_of}
use Rattle.event_order.specs.declared.slot.Slot.{Slot}
use Rattle.event_order.proofs.table.Table.add_rows.Given as goal

abbrev pub invariant-loop-alloc : goal.invariant-loop-alloc
invariant-loop-alloc g l = (slot : Slot) → entry (rows_of l.self.rows.items) slot ≡ entry (rows_of l.initial.self.rows.items) slot

abbrev pub decreases-loop-alloc : goal.decreases-loop-alloc
decreases-loop-alloc g l = l.row + 1 - length l.self.rows.items

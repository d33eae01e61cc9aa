use Rattle.std.proofs.Common.{◌≡◌, ℕ, ◌+◌, ◌-◌, length, slice_index_or, None}
use Rattle.event_order.proofs.table.Table.add_numbers.Given as goal

abbrev pub invariant-loop-row : goal.invariant-loop-row
invariant-loop-row g l = (i : ℕ) → slice_index_or l.row.items i None ≡ slice_index_or l.initial.row.items i None

abbrev pub decreases-loop-row : goal.decreases-loop-row
decreases-loop-row g l = l.number + 1 - length l.row.items

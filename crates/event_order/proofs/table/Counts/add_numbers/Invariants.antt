use Rattle.std.proofs.Common.{◌≡◌, ℕ, ◌+◌, ◌-◌, length, slice_index}
use Rattle.event_order.proofs.table.Counts.add_numbers.Given as goal

abbrev pub invariant-loop-row : goal.invariant-loop-row
invariant-loop-row l = (i : ℕ) → slice_index l.row.items i ≡ slice_index l.initial.row.items i

abbrev pub decreases-loop-row : goal.decreases-loop-row
decreases-loop-row l = l.number + 1 - length l.row.items

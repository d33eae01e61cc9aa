use Rattle.std.proofs.Common.{◌≡◌, ◌+◌, ◌≤◌, length}
use Rattle.assembler.specs.Lines.{lines}
use Rattle.stride_base.specs.declared.limits.TheConstants.{ORDER_LIMIT}
use Rattle.assembler.specs.Orders.{order_spelled, words_from_line}
use Rattle.assembler.specs.OrderReading.{with_words}
use Rattle.assembler.proofs.orders.read_order.Given as goal

-- the lines that are left, after the members so far, are read as the whole text
abbrev pub invariant-loop-line : goal.invariant-loop-line
invariant-loop-line l = record {
  reading : with_words l.order.items (words_from_line l.number (lines l.rest)) ≡ order_spelled l.first_line l.text;
  within : length l.order.items ≤ ORDER_LIMIT;
  few : l.number + length l.rest ≤ l.first_line + length l.text;
}

abbrev pub decreases-loop-line : goal.decreases-loop-line
decreases-loop-line l = length l.rest

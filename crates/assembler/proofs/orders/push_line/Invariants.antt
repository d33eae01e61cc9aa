use Rattle.std.proofs.Common.{◌≡◌, ◌≤◌, length}
use Rattle.assembler.specs.Words.{plain_words, words_of}
use Rattle.stride_base.specs.declared.limits.TheConstants.{ORDER_LIMIT}
use Rattle.assembler.specs.OrderReading.{line_words, with_words}
use Rattle.assembler.proofs.orders.push_line.Given as goal

-- the words that are left, after the members so far, are read as all words of the line
abbrev pub invariant-loop-word : goal.invariant-loop-word
invariant-loop-word l = record {
  reading : with_words l.order.items (line_words l.number (plain_words l.rest)) ≡ with_words l.fn.order.items (line_words l.number (words_of l.line));
  within : length l.order.items ≤ ORDER_LIMIT;
}

abbrev pub decreases-loop-word : goal.decreases-loop-word
decreases-loop-word l = length l.rest

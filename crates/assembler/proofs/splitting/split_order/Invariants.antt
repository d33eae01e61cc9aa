use Rattle.std.proofs.Common.{◌≡◌, ◌≤◌, ◌+◌, ◌-◌, length}
use Rattle.assembler.specs.Lines.{lines}
use Rattle.assembler.specs.Splits.{split, split_from}
use Rattle.assembler.proofs.splitting.split_order.Given as goal

-- the lines that are left, from here, split as all of them
abbrev pub invariant-loop-line : goal.invariant-loop-line
invariant-loop-line l = record {
  from_here : split_from (length l.text) (length l.text - length l.rest) l.number (lines l.rest) ≡ split l.text;
  inside : length l.rest ≤ length l.text;
  from_one : 1 ≤ l.number;
  few : l.number + length l.rest ≤ length l.text + 1;
}

abbrev pub decreases-loop-line : goal.decreases-loop-line
decreases-loop-line l = length l.rest

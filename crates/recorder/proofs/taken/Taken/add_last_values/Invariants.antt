use Rattle.std.proofs.Common.{◌≡◌, ◌+◌, ◌≤◌, map}
use Rattle.std.specs.List.{range_with_len}
use Rattle.interleavings.specs.AtomicStep.{Value}
use Rattle.shared_rule.specs.Closing.{last_word}
use Rattle.recorder.proofs.taken.Taken.add_last_values.Given as goal

-- the last values so far, and room for those that are left
abbrev pub invariant-loop-cell : goal.invariant-loop-cell
invariant-loop-cell l = record {
  values : l.self.last_values.items ≡ map (λ cell. last_word l.closed (Value cell)) (range_with_len 0 l.cell);
  room : l.cells ≤ l.self.last_values.spare + l.cell;
  logs : l.self.logs ≡ l.fn.self.logs;
  outputs : l.self.outputs ≡ l.fn.self.outputs;
  ends : l.self.ends ≡ l.fn.self.ends;
}

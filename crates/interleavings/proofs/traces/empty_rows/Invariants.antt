use Rattle.std.proofs.Common.{◌≡◌, [], replicate}
use Rattle.interleavings.proofs.traces.empty_rows.Given as goal

-- so many empty rows as were pushed
abbrev pub invariant-loop : goal.invariant-loop
invariant-loop l = l.rows.items ≡ replicate l.counter []

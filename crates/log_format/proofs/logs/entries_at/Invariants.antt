use Rattle.std.proofs.Common.{◌≡◌, ◌-◌}
use Rattle.log_format.specs.Reading.{entries_at}
use Rattle.log_format.proofs.Loops.{with_front}
use Rattle.log_format.proofs.logs.entries_at.Given as goal

-- the entries so far, and what is left read from here, are what all gave
abbrev pub invariant-loop : goal.invariant-loop
invariant-loop l = with_front l.entries.items (entries_at l.version l.before (l.count - l.counter) l.rest) ≡ entries_at l.version 0 l.count l.bytes

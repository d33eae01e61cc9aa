use Rattle.std.proofs.Common.{◌≡◌, ◌-◌}
use Rattle.log_format.specs.Bundles.{lists_of}
use Rattle.log_format.specs.Reading.{logs_at}
use Rattle.log_format.proofs.Loops.{with_front}
use Rattle.log_format.proofs.logs.logs_at.Given as goal

-- the logs so far, and what is left read from here, are what all gave
abbrev pub invariant-loop : goal.invariant-loop
invariant-loop l = with_front (lists_of l.logs.items) (logs_at l.version l.fuel (l.threads - l.counter) l.rest) ≡ logs_at l.version l.fuel l.threads l.bytes

use Rattle.std.proofs.Common.{◌≡◌, ◌+◌, length}
use Rattle.recorder.proofs.slot.touch.Given as goal

-- as many entries as were pushed, into as much of the room
abbrev pub invariant-loop : goal.invariant-loop
invariant-loop l = (length l.log.items ≡ l.counter) × (l.log.spare + l.counter ≡ l.fn.log.spare)

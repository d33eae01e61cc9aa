use Rattle.std.proofs.Common.{◌≡◌, length}
use Rattle.std.specs.List.{AllByRecursion}
use Rattle.recorder.specs.Halves.{IsFree}
use Rattle.recorder.proofs.slot.free_slots.Given as goal

-- as many free slots as were pushed
abbrev pub invariant-loop : goal.invariant-loop
invariant-loop l = (length l.slots.items ≡ l.counter) × AllByRecursion (IsFree l.fuel) l.slots.items

use Rattle.std.proofs.Common.{◌≡◌, ◌≤◌, ◌++◌, length, map}
use Rattle.std.specs.Vec.Iter.{into_iter_items, into_iter_len}
use Rattle.recorder.specs.declared.slot.Slot.{Slot}
use Rattle.recorder.proofs.taken.Taken.add_threads.Given as goal

-- what was added so far and what is in the slots that are left, for which there is room
abbrev pub invariant-loop-slot : goal.invariant-loop-slot
invariant-loop-slot l =
    let left = into_iter_items l.slot-iterator in
    record {
      logs : l.self.logs.items ++ map (λ (slot : Slot). slot.log) left ≡ map (λ (slot : Slot). slot.log) l.fn.slots.items;
      outputs : l.self.outputs.items ++ map (λ (slot : Slot). slot.out) left ≡ map (λ (slot : Slot). slot.out) l.fn.slots.items;
      ends : l.self.ends.items ++ map (λ (slot : Slot). slot.end) left ≡ map (λ (slot : Slot). slot.end) l.fn.slots.items;
      last_values : l.self.last_values ≡ l.fn.self.last_values;
      logs_room : length left ≤ l.self.logs.spare;
      outputs_room : length left ≤ l.self.outputs.spare;
      ends_room : length left ≤ l.self.ends.spare;
      count : into_iter_len l.slot-iterator ≡ length left;
    }

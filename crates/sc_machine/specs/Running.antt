-- What the loop of a thread does, over the parts of the thread's state.
use Rattle.std.specs.Prelude.{◌≡◌, ℕ, ◌-◌, ◌≤◌, List, Bool, Option, None}
use Rattle.stride_isa.specs.Listing.{Listing}
use Rattle.sc_machine.specs.declared.end.End.{End}
use Rattle.sc_machine.specs.declared.running.Cursor.{Cursor}
use Rattle.sc_machine.specs.Operands.{operands}
use Rattle.sc_machine.specs.ThreadStep.{Thread, Stands, now, stop_of, settled}
use Rattle.sc_machine.specs.TurnsInARow.{TookTurns, WithShared, beside}

-- the thread of these parts, with this end or none
abbrev pub thread_with : Option End → Cursor → List ℕ → List ℕ → List Bool → List ℕ → Thread
thread_with ended at words locals held out = record {
  pc = at.pc;
  stack = operands words at.top.depth;
  locals = locals;
  held = held;
  out = out;
  made = at.made;
  ended = ended;
}

-- the thread of these parts, which has not ended
abbrev pub going : Cursor → List ℕ → List ℕ → List Bool → List ℕ → Thread
going at words locals held out = thread_with None at words locals held out

-- the thread settled in this state, in which it stands
pub record RanOn (p : Listing) (fuel t : ℕ) (first last : Thread) : Type 0 where
  pub settles : last ≡ settled p fuel t first
  pub stands : now p t last ≡ Stands (stop_of p t last)

-- the thread settled and then took all turns but those that are left, by which it stands in this state
pub record RanTurns (p : Listing) (fuel t limit left : ℕ) (first : Thread) (cells : List ℕ) (holders : List (Option ℕ)) (last : WithShared) : Type 0 where
  pub fewer : left ≤ limit
  pub turns : TookTurns p fuel t limit (limit - left) (beside cells holders (settled p fuel t first)) last
  pub stands : now p t last.thread ≡ Stands (stop_of p t last.thread)

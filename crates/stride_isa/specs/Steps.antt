-- One step from a pair of position and depth, said as the check looks for it.
use Rattle.std.specs.Prelude.{◌≡◌, ℕ, ◌<◌, ◌≤◌}
use Rattle.stride_isa.specs.Instructions.{kind, popped}
use Rattle.stride_isa.specs.Limits.{stack_limit}
use Rattle.stride_isa.specs.Validity.{depth_after, Leads}
use Rattle.stride_isa.specs.declared.op.Op.{Op}

-- an instruction that is met with its operands and with room for its results leaves this depth
pub record LeavesDepth (op : Op) (depth after : ℕ) : Type 0 where
  pub enough : popped (kind op) ≤ depth
  pub after_is : after ≡ depth_after op depth
  pub room : after ≤ stack_limit

-- the position may follow, in a code of this size
pub record FollowsAt (op : Op) (size at next : ℕ) : Type 0 where
  pub leads : Leads op at next
  pub inside : next < size

-- the instruction at a pair leads to another pair, in a code of this size
pub record Step (op : Op) (size at depth next after : ℕ) : Type 0 where
  pub leaves : LeavesDepth op depth after
  pub follows : FollowsAt op size at next

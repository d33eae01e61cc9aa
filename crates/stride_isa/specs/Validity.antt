-- Which programs are valid: by the pairs of position and stack depth that a thread can reach.
use Rattle.std.specs.Prelude.{◌≡◌, ℕ, ◌+◌, ◌-◌, ◌<◌, ◌≤◌, ◌⊎◌, Bool, true, false, length, Option, Some, None}
use Rattle.stride_isa.specs.Instructions.{kind, operand, popped, pushed, goes_on}
use Rattle.stride_isa.specs.Limits.{stack_limit, local_count}
use Rattle.stride_isa.specs.Listing.{Listing, code_of, op_at, decl_at}
use Rattle.stride_isa.specs.declared.decl.Shape.{Shape}
use Rattle.stride_isa.specs.declared.decl.Shape.TheVariants as shapes
use Rattle.stride_isa.specs.declared.op.Op.{Op}
use Rattle.stride_isa.specs.declared.operand.Operand.{Operand}
use Rattle.stride_isa.specs.declared.operand.Operand.TheVariants.{Nothing, Number, Local, Label, Variable, Array, Monitor}

-- the depth of the stack after an instruction
abbrev pub depth_after : Op → ℕ → ℕ
depth_after op depth = depth - popped (kind op) + pushed (kind op)

-- the position to which an instruction with this operand may jump
abbrev pub label_of : Operand → Option ℕ
label_of (Label target) = Some target
label_of Nothing = None
label_of (Number word) = None
label_of (Local local) = None
label_of (Variable decl) = None
label_of (Array decl) = None
label_of (Monitor monitor) = None

-- the position to which an instruction may jump
abbrev pub target_of : Op → Option ℕ
target_of op = label_of (operand op)

-- the position of the next instruction, after one at a position that may jump there, and that the next may follow or not
abbrev pub LeadsBy : Option ℕ → Bool → ℕ → ℕ → Type 0
LeadsBy (Some target) false at next = next ≡ target
LeadsBy (Some target) true at next = (next ≡ target) ⊎ (next ≡ at + 1)
LeadsBy None false at next = ⊥
LeadsBy None true at next = next ≡ at + 1

-- the position of the next instruction, after one instruction at a position
abbrev pub Leads : Op → ℕ → ℕ → Type 0
Leads op at next = LeadsBy (target_of op) (goes_on (kind op)) at next

-- it is the shape of an array
abbrev pub IsArray : Shape → Type 0
IsArray shapes.Single = ⊥
IsArray (shapes.Array size) = Unit {0}

-- what an operand names is there: a local, a variable, an array or a monitor that is declared
abbrev pub IsThere : Listing → Operand → Type 0
IsThere p Nothing = Unit {0}
IsThere p (Number word) = Unit {0}
IsThere p (Local local) = local < local_count
IsThere p (Label target) = Unit {0}
IsThere p (Variable decl) = (decl < length p.decls) × ((decl_at p decl).shape ≡ shapes.Single)
IsThere p (Array decl) = (decl < length p.decls) × IsArray (decl_at p decl).shape
IsThere p (Monitor monitor) = monitor < length p.monitors

-- what an instruction names is there
abbrev pub Names : Listing → Op → Type 0
Names p op = IsThere p (operand op)

-- where a jump may lead is a position of the thread's code
abbrev pub IsInside : Listing → ℕ → Option ℕ → Type 0
IsInside p thread (Some target) = target < length (code_of p thread)
IsInside p thread None = Unit {0}

-- where an instruction may jump is a position of the thread's code
abbrev pub TargetsInside : Listing → ℕ → Op → Type 0
TargetsInside p thread op = IsInside p thread (target_of op)

-- the pairs of position and depth that a thread reaches: the least set that holds the start and, with each pair
-- that has its operands and room for its results, the pairs after it inside the code
pub data Reaches (p : Listing) (thread : ℕ) : ℕ → ℕ → Type 0 where
  Begin : Reaches p thread 0 0
  Follow : (at depth next after : ℕ) → Reaches p thread at depth → at < length (code_of p thread) → popped (kind (op_at p thread at)) ≤ depth → after ≡ depth_after (op_at p thread at) depth → after ≤ stack_limit → Leads (op_at p thread at) at next → next < length (code_of p thread) → Reaches p thread next after

-- an instruction that is met at a depth has its operands, room for its results and its names, and every
-- instruction that may follow stands inside the code
pub record IsFine (p : Listing) (thread at depth : ℕ) : Type 0 where
  pub enough : popped (kind (op_at p thread at)) ≤ depth
  pub room : depth_after (op_at p thread at) depth ≤ stack_limit
  pub inside : (next : ℕ) → Leads (op_at p thread at) at next → next < length (code_of p thread)
  pub names : Names p (op_at p thread at)

-- each thread has code, each instruction names what is there and jumps inside the code, each pair that a thread reaches is
-- fine, and no position is reached with two depths
pub record IsValid (p : Listing) : Type 0 where
  pub code : (thread : ℕ) → thread < length p.threads → 0 < length (code_of p thread)
  pub names : (thread at : ℕ) → thread < length p.threads → at < length (code_of p thread) → Names p (op_at p thread at)
  pub targets : (thread at : ℕ) → thread < length p.threads → at < length (code_of p thread) → TargetsInside p thread (op_at p thread at)
  pub fine : (thread at depth : ℕ) → thread < length p.threads → Reaches p thread at depth → IsFine p thread at depth
  pub one_depth : (thread at depth other : ℕ) → thread < length p.threads → Reaches p thread at depth → Reaches p thread at other → depth ≡ other

-- What the parts of the check answer: the first fault of a position, of a thread, of the program.
use Rattle.std.specs.Prelude.{◌≡◌, ℕ, ◌<◌, length, Bool, true, Option, Some, None}
use Rattle.stride_isa.specs.Faults.{HasNameFault, HasDepthFault, IsFirst, rank}
use Rattle.stride_isa.specs.Instructions.{kind, popped, goes_on}
use Rattle.stride_isa.specs.Listing.{Listing, code_of, op_at}
use Rattle.stride_isa.specs.Limits.{stack_limit}
use Rattle.stride_isa.specs.Validity.{depth_after, Names, TargetsInside}
use Rattle.stride_isa.specs.declared.check_error.CheckError.{CheckError}
use Rattle.stride_isa.specs.declared.check_error.CheckError.TheVariants.{Bad, NoMemory}
use Rattle.stride_isa.specs.declared.check_error.CheckKind.{CheckKind}
use Rattle.stride_isa.specs.declared.check_error.CheckKind.TheVariants.{Underflow, Overflow, RunsOff}
use Rattle.stride_isa.specs.declared.op.Op.{Op}
use Rattle.stride_isa.specs.declared.depths.Depths.{Depths}
use Rattle.stride_isa.specs.declared.depths.Depths.TheVariants.{Nothing, One, Several}
use Rattle.stride_isa.specs.declared.spot.Spot.{Spot}

-- a fault of this kind, and of none before it in the order of kinds
pub record IsFirstKind (Fault : CheckKind → Type 0) (kind : CheckKind) : Type 0 where
  pub here : Fault kind
  pub before : (k : CheckKind) → rank k < rank kind → Fault k → ⊥

-- the first kind of fault at one place, or what holds where there is none
abbrev pub TellsKind : (CheckKind → Type 0) → Type 0 → Option CheckKind → Type 0
TellsKind Fault Fine None = Fine
TellsKind Fault Fine (Some kind) = IsFirstKind Fault kind

-- the fault of the least position, and of the first kind there
pub record IsFirstIn (Fault : ℕ → CheckKind → Type 0) (at : ℕ) (kind : CheckKind) : Type 0 where
  pub here : Fault at kind
  pub positions : (a : ℕ) (k : CheckKind) → a < at → Fault a k → ⊥
  pub kinds : (k : CheckKind) → rank k < rank kind → Fault at k → ⊥

-- the first fault of one thread, or what holds where there is none
abbrev pub TellsSpot : (ℕ → CheckKind → Type 0) → Type 0 → Option Spot → Type 0
TellsSpot Fault Fine None = Fine
TellsSpot Fault Fine (Some spot) = IsFirstIn Fault spot.at spot.kind

-- the instruction names what is there and jumps inside the code
pub record IsNamed (p : Listing) (thread at : ℕ) : Type 0 where
  pub names : Names p (op_at p thread at)
  pub target : TargetsInside p thread (op_at p thread at)

-- so does each instruction of the thread
abbrev pub IsNamedThread : Listing → ℕ → Type 0
IsNamedThread p thread = (at : ℕ) → at < length (code_of p thread) → IsNamed p thread at

-- so does each instruction of the program
abbrev pub IsNamedWhole : Listing → Type 0
IsNamedWhole p = (thread : ℕ) → thread < length p.threads → IsNamedThread p thread

-- a refusal tells the first instruction that is at fault by itself
abbrev pub IsNameRefusal : Listing → CheckError → Type 0
IsNameRefusal p (Bad kind thread instruction) = IsFirst (HasNameFault p) thread instruction kind
IsNameRefusal p NoMemory = ⊥

-- no fault at this position of a thread
abbrev pub IsFaultless : Listing → ℕ → ℕ → Type 0
IsFaultless p thread at = (kind : CheckKind) → HasDepthFault p thread at kind → ⊥

-- no fault in this thread
abbrev pub IsFaultlessThread : Listing → ℕ → Type 0
IsFaultlessThread p thread = (at : ℕ) → IsFaultless p thread at

-- no fault in any thread
abbrev pub IsFaultlessWhole : Listing → Type 0
IsFaultlessWhole p = (thread : ℕ) → IsFaultlessThread p thread

-- a refusal tells the first fault on a way that a thread can take; want of memory says nothing
abbrev pub IsDepthRefusal : Listing → CheckError → Type 0
IsDepthRefusal p (Bad kind thread instruction) = IsFirst (HasDepthFault p) thread instruction kind
IsDepthRefusal p NoMemory = Unit {0}

-- the fault of an instruction that is met with one depth; the last of a code may not go on
abbrev pub StraysWith : Op → ℕ → Bool → CheckKind → Type 0
StraysWith op depth last Underflow = depth < popped (kind op)
StraysWith op depth last Overflow = stack_limit < depth_after op depth
StraysWith op depth last RunsOff = (goes_on (kind op) ≡ true) × (last ≡ true)
StraysWith op depth last k = ⊥

-- two depths that are marked, both below a limit
pub record HasTwo (Marked : ℕ → Type 0) (limit : ℕ) : Type 0 where
  pub small : ℕ
  pub large : ℕ
  pub apart : small < large
  pub below : large < limit
  pub small_marked : Marked small
  pub large_marked : Marked large

-- exactly this depth is marked, of those below a limit
pub record IsOnly (Marked : ℕ → Type 0) (limit depth : ℕ) : Type 0 where
  pub below : depth < limit
  pub marked : Marked depth
  pub only : (other : ℕ) → other < limit → Marked other → other ≡ depth

-- which depths are marked, of those below a limit
abbrev pub AreDepths : (ℕ → Type 0) → ℕ → Depths → Type 0
AreDepths Marked limit Nothing = (depth : ℕ) → depth < limit → Marked depth → ⊥
AreDepths Marked limit (One depth) = IsOnly Marked limit depth
AreDepths Marked limit Several = HasTwo Marked limit

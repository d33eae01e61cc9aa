-- The faults for which a program is refused, and which of them is told.
use Rattle.std.specs.Prelude.{◌≡◌, ℕ, ◌+◌, ◌<◌, ◌⊎◌, length, Option, Some, None}
use Rattle.stride_isa.specs.Instructions.{kind, popped}
use Rattle.stride_isa.specs.Limits.{stack_limit}
use Rattle.stride_isa.specs.Listing.{Listing, code_of, op_at}
use Rattle.stride_isa.specs.Validity.{depth_after, Leads, Names, TargetsInside, Reaches, IsValid}
use Rattle.stride_isa.specs.declared.check_error.CheckError.{CheckError}
use Rattle.stride_isa.specs.declared.check_error.CheckError.TheVariants.{Bad, NoMemory}
use Rattle.stride_isa.specs.declared.check_error.CheckKind.{CheckKind}
use Rattle.stride_isa.specs.declared.check_error.CheckKind.TheVariants.{Underflow, Overflow, TwoDepths, RunsOff, BadTarget, BadName}

-- the instruction itself is at fault: what it names is not there, or it jumps outside the thread's code
abbrev pub Misnames : Listing → ℕ → ℕ → CheckKind → Type 0
Misnames p thread at BadName = Names p (op_at p thread at) → ⊥
Misnames p thread at BadTarget = TargetsInside p thread (op_at p thread at) → ⊥
Misnames p thread at kind = ⊥

-- the fault of an instruction that stands in the program
pub record HasNameFault (p : Listing) (thread at : ℕ) (kind : CheckKind) : Type 0 where
  pub thread_is : thread < length p.threads
  pub inside : at < length (code_of p thread)
  pub fault : Misnames p thread at kind

-- a depth with which a thread reaches a position
pub record ReachedDepth (p : Listing) (thread at : ℕ) : Type 0 where
  pub depth : ℕ
  pub reached : Reaches p thread at depth

-- the next position is one that may follow, and it is the end of the code
abbrev pub RunsOffAfter : Listing → ℕ → ℕ → Type 0
RunsOffAfter p thread at = Leads (op_at p thread at) at (at + 1) × (at + 1 ≡ length (code_of p thread))

-- a pair of this position that the thread reaches is at fault; a thread without code runs off at once
abbrev pub Strays : Listing → ℕ → ℕ → CheckKind → Type 0
Strays p thread at TwoDepths = (a : ReachedDepth p thread at) × ((b : ReachedDepth p thread at) × (a.depth < b.depth))
Strays p thread at Underflow = (a : ReachedDepth p thread at) × (a.depth < popped (kind (op_at p thread at)))
Strays p thread at Overflow = (a : ReachedDepth p thread at) × (stack_limit < depth_after (op_at p thread at) a.depth)
Strays p thread at RunsOff = (ReachedDepth p thread at × RunsOffAfter p thread at) ⊎ ((length (code_of p thread) ≡ 0) × (at ≡ 0))
Strays p thread at kind = ⊥

-- the fault of a position on a way that a thread can take
pub record HasDepthFault (p : Listing) (thread at : ℕ) (kind : CheckKind) : Type 0 where
  pub thread_is : thread < length p.threads
  pub fault : Strays p thread at kind

-- the order of the kinds at one position
abbrev pub rank : CheckKind → ℕ
rank TwoDepths = 0
rank Underflow = 1
rank Overflow = 2
rank RunsOff = 3
rank BadTarget = 4
rank BadName = 5

-- the fault of the least thread, then of the least position, then of the first kind
pub record IsFirst (Fault : ℕ → ℕ → CheckKind → Type 0) (thread at : ℕ) (kind : CheckKind) : Type 0 where
  pub here : Fault thread at kind
  pub threads : (t a : ℕ) (k : CheckKind) → t < thread → Fault t a k → ⊥
  pub positions : (a : ℕ) (k : CheckKind) → a < at → Fault thread a k → ⊥
  pub kinds : (k : CheckKind) → rank k < rank kind → Fault thread at k → ⊥

-- no instruction of the program is at fault by itself
abbrev pub NamesWell : Listing → Type 0
NamesWell p = (thread at : ℕ) (kind : CheckKind) → HasNameFault p thread at kind → ⊥

-- the fault that is told: the first of an instruction by itself, and where there is none, the first on a way that a
-- thread can take
abbrev pub IsFirstFault : Listing → ℕ → ℕ → CheckKind → Type 0
IsFirstFault p thread at kind = IsFirst (HasNameFault p) thread at kind ⊎ (NamesWell p × IsFirst (HasDepthFault p) thread at kind)

-- a fault as it is told
pub record Fault : Type 0 where
  pub kind : CheckKind
  pub thread : ℕ
  pub instruction : ℕ

-- what the check of a program has to find: nothing where it is valid, and its first fault otherwise
abbrev pub IsVerdict : Listing → Option Fault → Type 0
IsVerdict p None = IsValid p
IsVerdict p (Some fault) = IsFirstFault p fault.thread fault.instruction fault.kind

-- a refusal tells the first fault; want of memory says nothing
abbrev pub IsRefusal : Listing → CheckError → Type 0
IsRefusal p (Bad kind thread instruction) = IsFirstFault p thread instruction kind
IsRefusal p NoMemory = Unit {0}

-- Laws of programs, of validity and of the first fault.
use Rattle.std.specs.Prelude.{◌≡◌, ℕ, List, Option, length}
use Rattle.stride_isa.specs.Faults.{HasNameFault, HasDepthFault, IsFirstFault, Fault, IsVerdict}
use Rattle.stride_isa.specs.Listing.{Listing, cell_count, starts_of}
use Rattle.stride_isa.specs.Validity.{IsValid}
use Rattle.stride_isa.specs.declared.check_error.CheckKind.{CheckKind}
use Rattle.stride_isa.specs.declared.decl.Decl.{Decl}

-- there are as many starting values as cells
abbrev pub EachCellStarts : Type 0
EachCellStarts = (decls : List Decl) → length (starts_of decls) ≡ cell_count decls

-- a valid program has no fault of either rule
abbrev pub ValidHasNoFault : Type 0
ValidHasNoFault =
    (p : Listing) → IsValid p → (thread at : ℕ) (kind : CheckKind) → (HasNameFault p thread at kind → ⊥) × (HasDepthFault p thread at kind → ⊥)

-- a program without a fault of either rule is valid
abbrev pub FaultlessIsValid : Type 0
FaultlessIsValid =
    (p : Listing) → ((thread at : ℕ) (kind : CheckKind) → (HasNameFault p thread at kind → ⊥) × (HasDepthFault p thread at kind → ⊥)) → IsValid p

-- a program has one first fault at most
abbrev pub OneFirstFault : Type 0
OneFirstFault =
    (p : Listing) (thread at : ℕ) (kind : CheckKind) (other_thread other_at : ℕ) (other_kind : CheckKind) → IsFirstFault p thread at kind → IsFirstFault p other_thread other_at other_kind → (thread ≡ other_thread) × (at ≡ other_at) × (kind ≡ other_kind)

-- a program has a verdict: it is valid, or it has a first fault
abbrev pub HasVerdict : Type 0
HasVerdict = (p : Listing) → (verdict : Option Fault) × IsVerdict p verdict

-- a program has one verdict at most
abbrev pub OneVerdict : Type 0
OneVerdict = (p : Listing) (verdict other : Option Fault) → IsVerdict p verdict → IsVerdict p other → verdict ≡ other

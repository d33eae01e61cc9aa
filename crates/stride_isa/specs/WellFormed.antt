-- What holds of every program that was put together, valid or not.
use Rattle.std.specs.Prelude.{◌≡◌, ℕ, ◌^◌, ◌<◌, ◌≤◌, true}
use Rattle.std.specs.List.{IsDistinct, AllByRecursion}
use Rattle.std.specs.Str.{bytes_eq}
use Rattle.stride_isa.specs.Instructions.{operand}
use Rattle.stride_isa.specs.Limits.{array_limit, local_count}
use Rattle.stride_isa.specs.Listing.{Listing, IsWithinLimits, names_of}
use Rattle.stride_isa.specs.Names.{is_name}
use Rattle.stride_isa.specs.declared.decl.Decl.{Decl}
use Rattle.stride_isa.specs.declared.decl.Shape.{Shape}
use Rattle.stride_isa.specs.declared.decl.Shape.TheVariants as shapes
use Rattle.stride_isa.specs.declared.op.Op.{Op}
use Rattle.stride_isa.specs.declared.operand.Operand.{Operand}
use Rattle.stride_isa.specs.declared.operand.Operand.TheVariants.{Nothing, Number, Local, Label, Variable, Array, Monitor}
use Rattle.stride_isa.specs.declared.operand.OperandClass.{OperandClass}
use Rattle.stride_isa.specs.declared.operand.OperandClass.TheVariants as classes

-- an array has 1 to 256 cells
abbrev pub HasSize : Shape → Type 0
HasSize shapes.Single = Unit {0}
HasSize (shapes.Array size) = (1 ≤ size) × (size ≤ array_limit)

-- a declaration has a name, a size that an array may have, and a starting value of 64 bits
pub record IsDeclaration (d : Decl) : Type 0 where
  pub name : is_name d.name ≡ true
  pub size : HasSize d.shape
  pub start : d.start < 2 ^ 64

-- a number fits an operand of the class: a number has 64 bits, a local is one that a thread has, and positions have 32 bits
abbrev pub FitsClass : OperandClass → ℕ → Type 0
FitsClass classes.Nothing number = Unit {0}
FitsClass classes.Number number = number < 2 ^ 64
FitsClass classes.Local number = number < local_count
FitsClass classes.Label number = number < 2 ^ 32
FitsClass classes.Variable number = number < 2 ^ 32
FitsClass classes.Array number = number < 2 ^ 32
FitsClass classes.Monitor number = number < 2 ^ 32

-- a number of an operand has 64 bits
abbrev pub IsWord : Operand → Type 0
IsWord Nothing = Unit {0}
IsWord (Number word) = word < 2 ^ 64
IsWord (Local local) = Unit {0}
IsWord (Label target) = Unit {0}
IsWord (Variable decl) = Unit {0}
IsWord (Array decl) = Unit {0}
IsWord (Monitor monitor) = Unit {0}

-- a pushed number has 64 bits
abbrev pub PushesWord : Op → Type 0
PushesWord op = IsWord (operand op)

-- the program is within its limits, its names are names of which no two are alike, arrays have cells, and numbers have 64
-- bits
pub record IsWellFormed (p : Listing) : Type 0 where
  pub limits : IsWithinLimits p
  pub distinct : IsDistinct bytes_eq (names_of p)
  pub decls : AllByRecursion IsDeclaration p.decls
  pub monitors : AllByRecursion (λ name. is_name name ≡ true) p.monitors
  pub words : AllByRecursion (λ code. AllByRecursion PushesWord code) p.threads

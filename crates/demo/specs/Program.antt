-- The program of a demonstration, by the rounds and the amounts of its threads.
use Rattle.std.specs.Prelude.{ℕ, List, [], ◌∷◌, ◌++◌, codes}
use Rattle.stride_isa.specs.Listing.{Listing}
use Rattle.stride_isa.specs.declared.decl.Decl.{Decl}
use Rattle.stride_isa.specs.declared.decl.Shape.TheVariants.{Single}
use Rattle.stride_isa.specs.declared.op.Op.{Op}
use Rattle.stride_isa.specs.declared.op.Op.TheVariants as ops

-- the variable of this name, which starts with 0
abbrev pub variable : List ℕ → Decl
variable name = record { name = name; shape = Single; start = 0 }

-- the variable to which each thread adds its amount while it holds the monitor
abbrev pub total : Decl
total = variable (codes "total")

-- the variable to which each thread adds 1 without the monitor
abbrev pub noise : Decl
noise = variable (codes "noise")

-- the code of a thread that makes this many rounds and adds this amount to the total in each. Its local 0 counts the rounds
-- that are left, a round begins at position 2, and the monitor keeps the others out while the total is changed.
unfoldable pub worker : ℕ → ℕ → List Op
worker rounds amount =
    ops.Push rounds ∷ ops.Set 0 ∷ ops.Enter 0 ∷ ops.Read 0 ∷ ops.Push amount ∷ ops.Add ∷ ops.Write 0 ∷ ops.Exit 0 ∷ ops.Read 1 ∷ ops.Push 1 ∷ ops.Add ∷ ops.Write 1 ∷ ops.Get 0 ∷ ops.Push 1 ∷ ops.Sub ∷ ops.Set 0 ∷ ops.Get 0 ∷ ops.Jnz 2 ∷ ops.Halt ∷ []

-- the program with these threads: the total at declaration 0, the noise at declaration 1, and one monitor
abbrev pub program_of : List (List Op) → Listing
program_of threads = record { decls = total ∷ noise ∷ []; monitors = codes "m" ∷ []; threads = threads }

-- the program with one more thread, which has this code
abbrev pub with_code : Listing → List Op → Listing
with_code p code = record p { threads = p.threads ++ code ∷ [] }

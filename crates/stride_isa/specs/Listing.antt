-- Programs as contracts see them, and what it means to add to one.
use Rattle.std.specs.Prelude.{◌≡◌, ℕ, ◌+◌, ◌≤◌, ◌||◌, Bool, true, false, List, [], ◌∷◌, ◌++◌, length, map, take, replicate, slice_index, Result, Ok, Err}
use Rattle.std.specs.List.{sum_by, list_any, flat_map, slice_index_or}
use Rattle.std.specs.Str.{bytes_eq}
use Rattle.stride_isa.specs.Limits.{thread_limit, cell_limit, monitor_limit, instruction_limit}
use Rattle.stride_isa.specs.declared.decl.Decl.{Decl}
use Rattle.stride_isa.specs.declared.decl.Shape.{Shape}
use Rattle.stride_isa.specs.declared.decl.Shape.TheVariants.{Single, Array}
use Rattle.stride_isa.specs.declared.op.Op.{Op}
use Rattle.stride_isa.specs.declared.op.Op.TheVariants.{Halt}
use Rattle.stride_isa.specs.declared.program.AddError.{AddError}
use Rattle.stride_isa.specs.declared.program.AddError.TheVariants.{Twice, TooMany, NoMemory}

-- a program: its variables and arrays in order, its monitors' names in order, and the code of each thread
pub record Listing : Type 0 where
  pub decls : List Decl
  pub monitors : List (List ℕ)
  pub threads : List (List Op)

-- the program that declares nothing and has no thread
abbrev pub empty : Listing
empty = record { decls = []; monitors = []; threads = [] }

-- how many cells a variable or an array has
abbrev pub cells_of : Shape → ℕ
cells_of Single = 1
cells_of (Array size) = size

-- how many cells these declarations have; cells are numbered from 0 in order of declaration
abbrev pub cell_count : List Decl → ℕ
cell_count decls = sum_by (λ d. cells_of d.shape) decls

-- the number of the first cell of a declaration
abbrev pub first_cell : List Decl → ℕ → ℕ
first_cell decls at = cell_count (take at decls)

-- the starting value of each cell
abbrev pub starts_of : List Decl → List ℕ
starts_of decls = flat_map (λ d. replicate (cells_of d.shape) d.start) decls

-- the starting value of a cell
abbrev pub start_of : Listing → ℕ → ℕ
start_of p cell = slice_index (starts_of p.decls) cell

-- the names of variables, arrays and monitors, which share one space
abbrev pub names_of : Listing → List (List ℕ)
names_of p = map (λ d. d.name) p.decls ++ p.monitors

-- whether a declaration or a monitor has the name
abbrev pub is_taken : Listing → List ℕ → Bool
is_taken p name = list_any (λ d. bytes_eq d.name name) p.decls || list_any (λ monitor. bytes_eq monitor name) p.monitors

-- how many instructions the threads have together
abbrev pub instruction_count : List (List Op) → ℕ
instruction_count [] = 0
instruction_count (code ∷ codes) = length code + instruction_count codes

-- the code of a thread, empty where there is no such thread
abbrev pub code_of : Listing → ℕ → List Op
code_of p thread = slice_index_or p.threads thread []

-- the instruction of a thread at a position, a halt where there is none
abbrev pub op_at : Listing → ℕ → ℕ → Op
op_at p thread at = slice_index_or (code_of p thread) at Halt

-- the declaration at a position, a variable without a name where there is none
abbrev pub decl_at : Listing → ℕ → Decl
decl_at p at = slice_index_or p.decls at (record { name = []; shape = Single; start = 0 })

-- the lists with one more item at the end of the last list
abbrev pub push_last : {X : Type 0} → List (List X) → X → List (List X)
push_last [] x = []
push_last (xs ∷ []) x = (xs ++ x ∷ []) ∷ []
push_last (xs ∷ ys ∷ rest) x = xs ∷ push_last (ys ∷ rest) x

-- the program with one more declaration
abbrev pub with_decl : Listing → Decl → Listing
with_decl p decl = record p { decls = p.decls ++ decl ∷ [] }

-- the program with one more monitor
abbrev pub with_monitor : Listing → List ℕ → Listing
with_monitor p name = record p { monitors = p.monitors ++ name ∷ [] }

-- the program with one more thread, which has no code yet
abbrev pub with_thread : Listing → Listing
with_thread p = record p { threads = p.threads ++ [] ∷ [] }

-- the program with one more instruction in its last thread
abbrev pub with_op : Listing → Op → Listing
with_op p op = record p { threads = push_last p.threads op }

-- which refusal comes: the first where the name is taken, the second where it is not and the limit is reached
abbrev pub RefusesBy : {X : Type 0} → Bool → Bool → Result X AddError → Type 0
RefusesBy taken full (Ok x) = (taken ≡ false) × (full ≡ false)
RefusesBy taken full (Err Twice) = taken ≡ true
RefusesBy taken full (Err TooMany) = (taken ≡ false) × (full ≡ true)
RefusesBy taken full (Err NoMemory) = Unit {0}

-- the limits of a program
pub record IsWithinLimits (p : Listing) : Type 0 where
  pub cells : cell_count p.decls ≤ cell_limit
  pub monitors : length p.monitors ≤ monitor_limit
  pub threads : length p.threads ≤ thread_limit
  pub instructions : instruction_count p.threads ≤ instruction_limit

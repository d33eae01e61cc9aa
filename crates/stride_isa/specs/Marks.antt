-- The table of the pairs that are reached, while it is made and when it is whole.
use Rattle.std.specs.Prelude.{◌≡◌, ℕ, ◌+◌, ◌*◌, ◌<◌, ◌≤◌, ◌⊎◌, Bool, true, false, List, [], ◌∷◌, length}
use Rattle.std.specs.List.{slice_index_or}
use Rattle.stride_isa.specs.Listing.{Listing, code_of, op_at}
use Rattle.stride_isa.specs.Limits.{stack_limit}
use Rattle.stride_isa.specs.Validity.{Reaches}
use Rattle.stride_isa.specs.Steps.{Step}
use Rattle.stride_isa.specs.declared.pair.Pair.{Pair}
use Rattle.stride_isa.specs.declared.reaching.Growing.{Growing}

-- how many depths a stack may have
abbrev pub depth_count : ℕ
depth_count = stack_limit + 1

-- the place of a pair in the table, which has a row of depths for each position
abbrev pub place_of : ℕ → ℕ → ℕ
place_of at depth = depth_count * at + depth

-- the pair is marked
abbrev pub IsMarked : List Bool → ℕ → ℕ → Type 0
IsMarked marks at depth = slice_index_or marks (place_of at depth) false ≡ true

-- the pair waits for its steps
abbrev pub Waits : List Pair → ℕ → ℕ → Type 0
Waits [] at depth = ⊥
Waits (pair ∷ pairs) at depth = ((pair.at ≡ at) × (pair.depth ≡ depth)) ⊎ Waits pairs at depth

-- how many pairs are not marked
abbrev pub unmarked_count : List Bool → ℕ
unmarked_count [] = 0
unmarked_count (true ∷ marks) = unmarked_count marks
unmarked_count (false ∷ marks) = unmarked_count marks + 1

-- only pairs of a kind were marked, and each one that was is waiting; none was forgotten
pub record Visits (Kind : ℕ → ℕ → Type 0) (marks : List Bool) (work : List Pair) (marks_after : List Bool) (work_after : List Pair) : Type 0 where
  pub long : length marks_after ≡ length marks
  pub grows : (at depth : ℕ) → IsMarked marks at depth → IsMarked marks_after at depth
  pub fresh : (at depth : ℕ) → depth ≤ stack_limit → IsMarked marks_after at depth → IsMarked marks at depth ⊎ (Kind at depth × Waits work_after at depth)
  pub keeps : (at depth : ℕ) → Waits work at depth → Waits work_after at depth
  pub queued : (at depth : ℕ) → Waits work_after at depth → Waits work at depth ⊎ (Kind at depth × IsMarked marks_after at depth)
  pub falls : 2 * unmarked_count marks_after + length work_after ≤ 2 * unmarked_count marks + length work

-- so it is between two states of a table in the making
abbrev pub VisitsOnly : (ℕ → ℕ → Type 0) → Growing → Growing → Type 0
VisitsOnly Kind old new = Visits Kind old.marks.items old.work.items new.marks.items new.work.items

-- the pair itself
abbrev pub IsPair : Pair → ℕ → ℕ → Type 0
IsPair pair at depth = (at ≡ pair.at) × (depth ≡ pair.depth)

-- the pair itself, if its position is inside a code of this size
abbrev pub IsPairInside : Pair → ℕ → ℕ → ℕ → Type 0
IsPairInside pair size at depth = (at ≡ pair.at) × (depth ≡ pair.depth) × (at < size)

-- all steps of the pair lead to marked pairs
abbrev pub IsDone : Listing → ℕ → List Bool → ℕ → ℕ → Type 0
IsDone p thread marks at depth =
    (next after : ℕ) → Step (op_at p thread at) (length (code_of p thread)) at depth next after → IsMarked marks next after

-- a table in the making: what is marked is reached, and waits or has all its steps marked
pub record IsGrowing (p : Listing) (thread : ℕ) (marks : List Bool) (work : List Pair) : Type 0 where
  pub long : length marks ≡ depth_count * length (code_of p thread)
  pub begun : IsMarked marks 0 0
  pub reached : (at depth : ℕ) → depth ≤ stack_limit → IsMarked marks at depth → Reaches p thread at depth
  pub queued : (at depth : ℕ) → Waits work at depth → (at < length (code_of p thread)) × (depth ≤ stack_limit) × IsMarked marks at depth
  pub closed : (at depth : ℕ) → depth ≤ stack_limit → IsMarked marks at depth → Waits work at depth ⊎ IsDone p thread marks at depth

-- the whole table: exactly what is reached is marked
pub record IsTable (p : Listing) (thread : ℕ) (marks : List Bool) : Type 0 where
  pub long : length marks ≡ depth_count * length (code_of p thread)
  pub reached : (at depth : ℕ) → depth ≤ stack_limit → IsMarked marks at depth → Reaches p thread at depth
  pub marked : (at depth : ℕ) → Reaches p thread at depth → IsMarked marks at depth

-- What looking up in the index goes by.
use Rattle.std.specs.Prelude.{◌≡◌, ℕ, ◌+◌, ◌-◌, ◌*◌, ◌^◌, ◌<◌, ◌≤◌, ◌⊎◌, List, Option, Some, None, length, slice_index_or}
use Rattle.stride_base.specs.Ascending.{Triple}

-- the triple stands at this one or before it, in dictionary order
abbrev pub IsUpTo : Triple → ℕ → ℕ → ℕ → Type 0
IsUpTo member cell value bound = (member.0 < cell) ⊎ ((member.0 ≡ cell) × ((member.1 < value) ⊎ ((member.1 ≡ value) × (member.2 ≤ bound))))

-- the number of a triple that has this cell and value, or none
abbrev pub IsHit : Triple → ℕ → ℕ → Option ℕ → Type 0
IsHit member cell value (Some number) = (member.0 ≡ cell) × (member.1 ≡ value) × (member.2 ≡ number)
IsHit member cell value None = member.0 ≡ cell → member.1 ≡ value → ⊥

-- what the triple before this place of the list tells, if one is there
abbrev pub IsHitBefore : List Triple → ℕ → ℕ → ℕ → Option ℕ → Type 0
IsHitBefore index low cell value found = ((low ≡ 0) × (found ≡ None)) ⊎ ((1 ≤ low) × ((d : Triple) → IsHit (slice_index_or index (low - 1) d) cell value found))

-- half way: what stands before `low` is up to the triple, and what stands from `high` on is not
pub record IsSplit (index : List Triple) (low high cell value bound : ℕ) (found : Option ℕ) : Type 0 where
  pub ordered : low ≤ high
  pub inside : high ≤ length index
  pub before : (i : ℕ) (d : Triple) → i < low → IsUpTo (slice_index_or index i d) cell value bound
  pub after : (i : ℕ) (d : Triple) → high ≤ i → i < length index → IsUpTo (slice_index_or index i d) cell value bound → ⊥
  pub hit : IsHitBefore index low cell value found

-- so many looks halved the rest of the list
pub record IsHalved (count rest looks : ℕ) : Type 0 where
  pub halved : 2 ^ looks * rest ≤ count
  pub few : 2 ^ looks ≤ 2 * count + 1

-- The dictionary order of triples, and lists that ascend by it.
use Rattle.std.specs.Prelude.{◌≡◌, ℕ, ◌<◌, ◌⊎◌, ◌↔◌, List, length, Contains, slice_index_or}

-- a triple of numbers
abbrev pub Triple : Type 0
Triple = ℕ × ℕ × ℕ

-- the dictionary order: the first difference decides
abbrev pub Before : Triple → Triple → Type 0
Before a b = (a.0 < b.0) ⊎ ((a.0 ≡ b.0) × ((a.1 < b.1) ⊎ ((a.1 ≡ b.1) × (a.2 < b.2))))

-- each triple comes before all that stand after it
abbrev pub IsAscending : List Triple → Type 0
IsAscending xs = (i j : ℕ) (d : Triple) → i < j → j < length xs → Before (slice_index_or xs i d) (slice_index_or xs j d)

-- no two of the triples are equal: equal ones stand at one place
abbrev pub AreDistinct : List Triple → Type 0
AreDistinct xs = (i j : ℕ) (d : Triple) → i < length xs → j < length xs → slice_index_or xs i d ≡ slice_index_or xs j d → i ≡ j

-- a triple is in the one list exactly where it is in the other
abbrev pub HaveSameMembers : List Triple → List Triple → Type 0
HaveSameMembers xs ys = (triple : Triple) → Contains xs triple ↔ Contains ys triple

-- What contracts see of finding the write of a read.
use Rattle.std.specs.Prelude.{◌≡◌, ℕ, ◌+◌, ◌*◌, ◌<◌, ◌≤◌, ◌↔◌, List, Option, Some, None, length, slice_get, Contains}
use Rattle.std.specs.Option.{IfSome}
use Rattle.stride_base.specs.Ascending.{Triple}
use Rattle.stride_isa.specs.Limits.{cell_limit, fuel_limit, thread_limit}
use Rattle.interleavings.specs.TraceLists.{TraceLists}
use Rattle.linkage.specs.declared.finder.Finder.{Finder}
use Rattle.linkage.specs.declared.row.Row.{Row}
use Rattle.linkage.specs.Checking.{IsRow}
use Rattle.linkage.specs.Links.{IsLink}
use Rattle.linkage.specs.Sources.{Stored}
use Rattle.linkage.specs.Spans.{place_of}

-- the place of the row where the write of a cell with this number stands holds this value
abbrev pub Holds : Row → ℕ → ℕ → ℕ → Type 0
Holds row cell number value = slice_get row.values.items (place_of row.spans cell number) ≡ Some value

-- no number within the bound and less than `below` under it holds the value
abbrev pub IsNearBelow : Row → ℕ → ℕ → ℕ → ℕ → Type 0
IsNearBelow row cell value bound below = (number : ℕ) → number ≤ bound → bound < number + below → Holds row cell number value → ⊥

-- the greatest number within the bound that holds the value; nothing is said where none was found
abbrev pub IsNear : Row → ℕ → ℕ → ℕ → Option ℕ → Type 0
IsNear row cell value bound None = Unit {0}
IsNear row cell value bound (Some number) = (number ≤ bound) × Holds row cell number value × ((other : ℕ) → other ≤ bound → number < other → Holds row cell other value → ⊥)

-- the index has the cell, value and number of each write, and nothing else
pub record IsIndex (traces : TraceLists) (index : List Triple) : Type 0 where
  pub exact : (cell number value : ℕ) → Stored traces cell number value ↔ Contains index (cell, value, number)
  pub few : length index ≤ fuel_limit * thread_limit + cell_limit

-- the index has the value and number of each write of the cell that is at most so much below the bound, and of no other write of it
pub record IsWindow (row : Row) (cell bound width : ℕ) (index : List Triple) : Type 0 where
  pub exact : (number value : ℕ) → ((number ≤ bound) × (bound ≤ number + width) × Holds row cell number value) ↔ Contains index (cell, value, number)
  pub few : length index ≤ width + 1

-- how many looks at the index find a write in it at most, since twice the most writes, and one, is below 2 to the power of 25
abbrev pub index_looks : ℕ
index_looks = 24

-- the same of an index of the writes below a bound, since twice the most of them, and one, is below 2 to the power of 12
abbrev pub window_looks : ℕ
window_looks = 11

-- how many looks find the write of a read at most
abbrev pub look_up_looks : ℕ
look_up_looks = 2 * window_looks + index_looks

-- the row of all writes, and the index, if it is there
pub record IsFinder (traces : TraceLists) (finder : Finder) : Type 0 where
  pub row : IsRow traces finder.row
  pub index : IfSome finder.index (IsIndex traces)

-- the link of a read, or none where no write within the bound stored the value
abbrev pub IsLinkOrNone : TraceLists → ℕ → ℕ → ℕ → Option ℕ → Type 0
IsLinkOrNone traces cell value bound (Some number) = IsLink traces cell value bound number
IsLinkOrNone traces cell value bound None = (number : ℕ) → number ≤ bound → Stored traces cell number value → ⊥

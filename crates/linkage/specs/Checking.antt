-- What contracts see of the checks of numbers and turns.
use Rattle.std.specs.Prelude.{◌≡◌, ℕ, ◌+◌, ◌*◌, ◌<◌, ◌≤◌, Some, Result, Ok, Err, length, slice_get, slice_index}
use Rattle.stride_isa.specs.Limits.{cell_limit, fuel_limit, thread_limit}
use Rattle.interleavings.specs.TraceLists.{TraceLists}
use Rattle.linkage.specs.declared.link_error.LinkError.{LinkError}
use Rattle.linkage.specs.declared.row.Row.{Row}
use Rattle.linkage.specs.Answers.{IsTold}
use Rattle.linkage.specs.Refusals.{IsRefused, rank_of}
use Rattle.linkage.specs.Sources.{Stored}
use Rattle.linkage.specs.Spans.{AreSpans, place_of}

-- whatever is refused is of this kind or a later one
abbrev pub NoneBelow : TraceLists → ℕ → Type 0
NoneBelow traces kind = (refusal : LinkError) → IsRefused traces refusal → kind ≤ (rank_of refusal).0

-- the write of a cell with this number has a place in the row, which holds this value
abbrev pub IsInRow : Row → ℕ → ℕ → ℕ → Type 0
IsInRow row cell number value = (number ≤ slice_index row.spans.greatest.items cell) × (slice_get row.values.items (place_of row.spans cell number) ≡ Some value)

-- the row has a value for each place
pub record IsShaped (row : Row) : Type 0 where
  pub spans : AreSpans row.spans
  pub count : length row.values.items ≡ row.spans.places

-- the row has the values of all writes of all cells, each behind the first of its cell by its number
pub record IsRow (traces : TraceLists) (row : Row) : Type 0 where
  pub shape : IsShaped row
  pub greatest : length row.spans.greatest.items ≡ length traces.starts
  pub there : (cell number : ℕ) → cell < length traces.starts → number ≤ slice_index row.spans.greatest.items cell → (value : ℕ) × IsInRow row cell number value × Stored traces cell number value
  pub stored : (cell number value : ℕ) → Stored traces cell number value → (cell < length traces.starts) × IsInRow row cell number value
  pub few : length row.values.items ≤ fuel_limit * thread_limit + cell_limit

-- the row, where no number is written twice or left out, or which is
abbrev pub IsRowAnswer : TraceLists → Result Row LinkError → Type 0
IsRowAnswer traces (Ok row) = IsRow traces row × NoneBelow traces 3
IsRowAnswer traces (Err refusal) = IsTold traces refusal

-- no turn is taken twice or left out, or which is
abbrev pub IsTurnsAnswer : TraceLists → Result (Unit {0}) LinkError → Type 0
IsTurnsAnswer traces (Ok done) = NoneBelow traces 5
IsTurnsAnswer traces (Err refusal) = IsTold traces refusal

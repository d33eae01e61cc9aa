-- What the answers of this crate's calls say.
use Rattle.std.specs.Prelude.{ℕ, ◌≤◌, List, Option, Some, None, Result, Ok, Err, Contains}
use Rattle.stride_base.specs.Ascending.{Triple}
use Rattle.interleavings.specs.TraceLists.{TraceLists}
use Rattle.linkage.specs.declared.link_error.LinkError.{LinkError}
use Rattle.linkage.specs.declared.link_error.LinkError.TheVariants.{TwiceWritten, WriteGap, TwiceTurned, TurnGap, BoundTooLarge, NoEqualWrite, UpdateMismatch, NoMemory}
use Rattle.linkage.specs.Links.{IsLinked}
use Rattle.linkage.specs.Refusals.{IsRefused, IsFirstRefusal}

-- the greatest number within the bound that is listed with this cell and value
pub record IsGreatest (index : List Triple) (cell value bound number : ℕ) : Type 0 where
  pub within : number ≤ bound
  pub listed : Contains index (cell, value, number)
  pub greatest : (other : ℕ) → other ≤ bound → Contains index (cell, value, other) → other ≤ number

-- the greatest listed number within the bound, or none exactly where none is listed
abbrev pub IsLatest : List Triple → ℕ → ℕ → ℕ → Option ℕ → Type 0
IsLatest index cell value bound (Some number) = IsGreatest index cell value bound number
IsLatest index cell value bound None = (number : ℕ) → number ≤ bound → Contains index (cell, value, number) → ⊥

-- the links are there and nothing is refused
pub record IsWhole (traces : TraceLists) (links : List (List (Option ℕ))) : Type 0 where
  pub linked : IsLinked traces links
  pub unrefused : (refusal : LinkError) → IsRefused traces refusal → ⊥

-- what is refused is the first refusal; want of memory is free
abbrev pub IsTold : TraceLists → LinkError → Type 0
IsTold traces NoMemory = Unit {0}
IsTold traces (TwiceWritten cell number) = IsFirstRefusal traces (TwiceWritten cell number)
IsTold traces (WriteGap cell number) = IsFirstRefusal traces (WriteGap cell number)
IsTold traces (TwiceTurned monitor turn) = IsFirstRefusal traces (TwiceTurned monitor turn)
IsTold traces (TurnGap monitor turn) = IsFirstRefusal traces (TurnGap monitor turn)
IsTold traces (BoundTooLarge place) = IsFirstRefusal traces (BoundTooLarge place)
IsTold traces (NoEqualWrite place) = IsFirstRefusal traces (NoEqualWrite place)
IsTold traces (UpdateMismatch place) = IsFirstRefusal traces (UpdateMismatch place)

-- the links, where nothing is refused, or what is refused first
abbrev pub IsAnswer : TraceLists → Result (List (List (Option ℕ))) LinkError → Type 0
IsAnswer traces (Ok links) = IsWhole traces links
IsAnswer traces (Err refusal) = IsTold traces refusal

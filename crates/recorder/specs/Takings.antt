-- Room for what a session gives.
use Rattle.std.specs.Prelude.{◌≡◌, ℕ, ◌≤◌, []}
use Rattle.stride_base.specs.Listed.{Listed}
use Rattle.recorder.specs.declared.taken.Taken.{Taken}

-- a list that is still empty has room for so many items
pub record HasRoom {X : Type 0} (count : ℕ) (list : Listed X) : Type 0 where
  pub empty : list.items ≡ []
  pub room : count ≤ list.spare

-- nothing was taken yet, and there is room for what is recorded of so many threads and cells
pub record IsBlank (threads cells : ℕ) (taken : Taken) : Type 0 where
  pub logs : HasRoom threads taken.logs
  pub outputs : HasRoom threads taken.outputs
  pub ends : HasRoom threads taken.ends
  pub last_values : HasRoom cells taken.last_values

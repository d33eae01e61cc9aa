-- What always holds of the fields of a `Control`. No public clause cites this module.
use Rattle.std.specs.Prelude.{◌≡◌, ℕ, ◌<◌, ◌≤◌, Option, None, length}
use Rattle.stride_isa.specs.Limits.{fuel_limit}
use Rattle.stride_isa.specs.Listing.{Listing, code_of}
use Rattle.stride_isa.specs.Validity.{Reaches}
use Rattle.sc_machine.specs.declared.end.End.{End}

-- the thread is one of the program's and stands inside its code, with a depth of the stack that it can reach there; it
-- has made no more than its fuel, and less where it has not ended
pub record IsRun (p : Listing) (thread fuel pc depth made : ℕ) (ended : Option End) : Type 0 where
  pub thread_is : thread < length p.threads
  pub inside : pc < length (code_of p thread)
  pub reaches : Reaches p thread pc depth
  pub within : made ≤ fuel
  pub limit : fuel ≤ fuel_limit
  pub going : ended ≡ None → made < fuel

-- What always holds of the fields of a `MemSource`. No public clause cites this module.
use Rattle.std.specs.Prelude.{◌≡◌, ◌≤◌, length}
use Rattle.stride_base.specs.MemoryDevices.{listed_calls}
use Rattle.stride_base.specs.declared.mem_source.MemSource.TheInside.{Inside}

-- no more bytes were read than there are, and the faults are the listed calls so far
pub record IsConsistent (s : Inside) : Type 0 where
  pub inside : s.at ≤ length s.bytes.items
  pub counted : s.faults ≡ listed_calls s.failing.items s.calls

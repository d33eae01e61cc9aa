-- What always holds of the fields of a `MemSink`. No public clause cites this module.
use Rattle.std.specs.Prelude.{◌+◌, ◌<◌, ◌≤◌, length}
use Rattle.stride_base.specs.declared.mem_sink.MemSink.TheInside.{Inside}

-- a call takes something, no more is held than there is room for, and all that room is reserved
pub record IsReserved (s : Inside) : Type 0 where
  pub takes : 0 < s.per_call
  pub within : length s.held.items ≤ s.room
  pub reserved : s.room ≤ length s.held.items + s.held.spare

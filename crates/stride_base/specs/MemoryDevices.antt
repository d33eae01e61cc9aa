-- What a contract sees of the devices over memory, and what each of their calls does.
use Rattle.std.specs.Prelude.{ℕ, zero, suc, ◌+◌, ◌-◌, ◌^◌, min, Bool, ◌&&◌, ◌||◌, if◌then◌else◌, ◌==◌, nat_lt, nat_le, List, ◌++◌, length, take, drop, Option, Some, None, unwrap_or}
use Rattle.std.specs.List.{list_any}
use Rattle.stride_base.specs.Devices.{raised}

-- the call with this number is listed. None from 2 ^ 32 on is
abbrev pub is_listed : List ℕ → ℕ → Bool
is_listed failing call = nat_lt call (2 ^ 32) && list_any (λ k. k == call) failing

-- how many of the calls from 1 up to this number are listed
unfoldable pub listed_calls : List ℕ → ℕ → ℕ
listed_calls failing zero = 0
listed_calls failing (suc before) =
    listed_calls failing before + (if is_listed failing (suc before) then 1 else 0)

-- a source over memory: the bytes left, the numbers of the calls that fail, how many calls were made
pub record MemorySource : Type 0 where
  pub left : List ℕ
  pub failing : List ℕ
  pub calls : ℕ

-- what the next read answers for a buffer of this length: the number of bytes, or none where it fails
abbrev pub read_answer : MemorySource → ℕ → Option ℕ
read_answer s len =
    if is_listed s.failing (raised s.calls) then None else Some (min len (length s.left))

-- the bytes that the next read gives
abbrev pub read_bytes : MemorySource → ℕ → List ℕ
read_bytes s len = take (unwrap_or (read_answer s len) 0) s.left

-- the source after that read
abbrev pub after_read : MemorySource → ℕ → MemorySource
after_read s len = record s { left = drop (unwrap_or (read_answer s len) 0) s.left; calls = raised s.calls }

-- a sink over memory: the bytes held, how many a call takes at most, how many it holds at most, the
-- numbers of the calls that fail, how many calls were made, how many of them failed
pub record MemorySink : Type 0 where
  pub held : List ℕ
  pub per_call : ℕ
  pub room : ℕ
  pub failing : List ℕ
  pub calls : ℕ
  pub faults : ℕ

-- the next call fails: it is listed, or no room is left
abbrev pub is_put_failing : MemorySink → Bool
is_put_failing s = is_listed s.failing (raised s.calls) || nat_le s.room (length s.held)

-- what the next call answers for this piece: the number of bytes taken, or none where it fails
abbrev pub put_answer : MemorySink → List ℕ → Option ℕ
put_answer s piece =
    if is_put_failing s then None else Some (min (min s.per_call (length piece)) (s.room - length s.held))

-- the sink after that call
abbrev pub after_put : MemorySink → List ℕ → MemorySink
after_put s piece = record s {
  held = s.held ++ take (unwrap_or (put_answer s piece) 0) piece;
  calls = raised s.calls;
  faults = if is_put_failing s then raised s.faults else s.faults;
}

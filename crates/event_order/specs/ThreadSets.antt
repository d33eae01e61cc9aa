-- Sets of threads.
use Rattle.std.specs.Prelude.{◌≡◌, ◌<◌, ℕ, Option, Some, None}
use Rattle.std.specs.Int.{bit_at}
use Rattle.stride_isa.specs.Limits.{thread_limit}
use Rattle.event_order.specs.declared.thread_set.ThreadSet.{ThreadSet}

-- the thread is in the set
abbrev pub Has : ThreadSet → ℕ → Type 0
Has set thread = (thread < thread_limit) × (bit_at set.bits thread ≡ 1)

-- the thread is the least of the set, or none is in it
abbrev pub IsLeastIn : ThreadSet → Option ℕ → Type 0
IsLeastIn set None = (thread : ℕ) → Has set thread → ⊥
IsLeastIn set (Some first) = Has set first × ((thread : ℕ) → thread < first → Has set thread → ⊥)

-- the set of each thread that a program can have
abbrev pub everyone : ThreadSet
everyone = record { bits = 65535 }

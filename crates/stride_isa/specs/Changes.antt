-- What an atomic update stores, by the value that it meets.
use Rattle.std.specs.Prelude.{ℕ, ◌+◌, ◌%◌, ◌^◌, ◌==◌, if◌then◌else◌}
use Rattle.stride_isa.specs.declared.change.Change.{Change}
use Rattle.stride_isa.specs.declared.change.Change.TheVariants.{Store, Plus, IfEqual}

-- the value after the change: an exchange stores its word, an addition wraps at 64 bits, and a comparison stores its new
-- word only where it met the expected one (compare-and-swap)
abbrev pub applied : Change → ℕ → ℕ
applied (Store word) old = word
applied (Plus word) old = (old + word) % 2 ^ 64
applied (IfEqual expected new) old = if old == expected then new else old

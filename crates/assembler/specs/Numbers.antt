-- Numbers in decimal digits.
use Rattle.std.specs.Prelude.{ℕ, ◌+◌, ◌-◌, ◌*◌, nat_lt, if◌then◌else◌, List, [], ◌∷◌, Option, Some, None, option_and_then}
use Rattle.std.specs.Char.{is_ascii_digit}

-- the value of digits after those that have this value; none where a byte is no digit
abbrev pub digits_after : ℕ → List ℕ → Option ℕ
digits_after value [] = Some value
digits_after value (byte ∷ bytes) = if is_ascii_digit byte then digits_after (value * 10 + (byte - 48)) bytes else None

-- the number where it is below the limit
abbrev pub below : ℕ → ℕ → Option ℕ
below limit value = if nat_lt value limit then Some value else None

-- the number below the limit that one or more digits spell, leading zeros among them
abbrev pub number : ℕ → List ℕ → Option ℕ
number limit [] = None
number limit (byte ∷ bytes) = option_and_then (below limit) (digits_after 0 (byte ∷ bytes))

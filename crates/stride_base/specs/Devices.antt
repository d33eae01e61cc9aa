-- What a device does to the bytes that it tells, and to its count of faults.
use Rattle.std.specs.Prelude.{◌≡◌, ℕ, ◌+◌, ◌-◌, ◌^◌, ◌≤◌, min, List, ◌++◌, length, ⊤, Option, Some, None}

-- the bytes left lost these from their front. Who tells goes on telling, and who doesn't never does
abbrev pub Takes : Option (List ℕ) → Option (List ℕ) → List ℕ → Type 0
Takes None None bytes = ⊤
Takes None (Some new) bytes = ⊥
Takes (Some old) None bytes = ⊥
Takes (Some old) (Some new) bytes = old ≡ bytes ++ new

-- the bytes left lost this many from their front
pub record TakesMany (old new : Option (List ℕ)) (count : ℕ) : Type 0 where
  pub bytes : List ℕ
  pub many : length bytes ≡ count
  pub taken : Takes old new bytes

-- the bytes held gained these at their end. Who tells goes on telling, and who doesn't never does
abbrev pub Adds : Option (List ℕ) → Option (List ℕ) → List ℕ → Type 0
Adds None None bytes = ⊤
Adds None (Some new) bytes = ⊥
Adds (Some old) None bytes = ⊥
Adds (Some old) (Some new) bytes = new ≡ old ++ bytes

-- a prefix of the piece was appended, which may be none or all of it
pub record AddsFront (old new : Option (List ℕ)) (piece : List ℕ) : Type 0 where
  pub front : List ℕ
  pub rest : List ℕ
  pub parts : piece ≡ front ++ rest
  pub added : Adds old new front

-- one more, up to the last value of a `u64`
abbrev pub raised : ℕ → ℕ
raised count = min (count + 1) (2 ^ 64 - 1)

-- the count of faults rose, or stands at its last value
abbrev pub Rose : ℕ → ℕ → Type 0
Rose old new = raised old ≤ new

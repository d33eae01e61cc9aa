-- Parts of lists of bytes are lists of bytes.
use Rattle.std.proofs.Common.{◌≡◌, ℕ, zero, suc, ◌+◌, replicate, List, [], ◌∷◌, ◌++◌, length, take, drop, subst, refl, arith, inl, inr}
use Rattle.std.proofs.lemmas.Bool.{cases_lt}
use Rattle.std.proofs.lemmas.List.{drop_at, length-take, get_or-drop, get_or-take, get_or_past}
use Rattle.log_format.specs.Bundles.{IsBytes}

pub IsBytes-drop : (n : ℕ) (bytes : List ℕ) → IsBytes bytes → IsBytes (drop n bytes)
IsBytes-drop n bytes h i = rw get_or-drop (h (n + i))

pub IsBytes-take : (n : ℕ) (bytes : List ℕ) → IsBytes bytes → IsBytes (take n bytes)
IsBytes-take n bytes h i =
    elim (cases_lt i n) [
      | inl lt ↦ rw (get_or-take n bytes i 0 lt) (h i)
      | inr le ↦ rw (get_or_past (take n bytes) i 0 (omega (arith, length-take n bytes))) (omega arith)
    ]

pub IsBytes-rest : (b : ℕ) (bytes : List ℕ) → IsBytes (b ∷ bytes) → IsBytes bytes
IsBytes-rest b bytes h i = h (suc i)

-- what follows a part
pub IsBytes-after : (bytes text rest : List ℕ) → bytes ≡ text ++ rest → IsBytes bytes → IsBytes rest
IsBytes-after bytes text rest e h = subst IsBytes (drop_at text rest (length text) refl) (IsBytes-drop (length text) (text ++ rest) (subst IsBytes e h))

-- zeros are bytes
pub IsBytes-of_zeros : (n : ℕ) → IsBytes (replicate n 0)
IsBytes-of_zeros zero i = omega arith
IsBytes-of_zeros (suc n) zero = omega arith
IsBytes-of_zeros (suc n) (suc i) = IsBytes-of_zeros n i

-- with zeros after them
pub IsBytes-zeros : (n : ℕ) (bytes : List ℕ) → IsBytes bytes → IsBytes (bytes ++ replicate n 0)
IsBytes-zeros n [] h i = IsBytes-of_zeros n i
IsBytes-zeros n (byte ∷ bytes) h zero = h 0
IsBytes-zeros n (byte ∷ bytes) h (suc i) = IsBytes-zeros n bytes (IsBytes-rest byte bytes h) i

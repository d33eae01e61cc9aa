-- The steps of the loop that reads a number.
use Rattle.std.proofs.Common.{◌≡◌, ℕ, ◌+◌, ◌-◌, ◌*◌, ◌<◌, ◌≤◌, Bool, true, false, cond, ltb, List, [], ◌∷◌, length, get_or, drop, Option, Some, None, refl, arith}
use Rattle.std.specs.Char.{is_ascii_digit}
use Rattle.std.specs.Option.{option_and_then}
use Rattle.std.proofs.lemmas.Bool.{le-ltb, ltb-true}
use Rattle.std.proofs.lemmas.List.{drop_more}
use Rattle.assembler.specs.Numbers.{digits_after, below, number}

-- the number below the limit that the digits from here on make after this value
abbrev pub number_from : ℕ → ℕ → List ℕ → Option ℕ
number_from limit value digits = option_and_then (below limit) (digits_after value digits)

none_from_digits : (is_digit : Bool) (limit : ℕ) (value : Option ℕ) → option_and_then (below limit) value ≡ None → option_and_then (below limit) (cond is_digit value None) ≡ None
none_from_digits true limit value none = none
none_from_digits false limit value none = refl

-- digits after a value never make it smaller
number_from-past : (limit value : ℕ) (digits : List ℕ) → limit ≤ value → number_from limit value digits ≡ None
number_from-past limit value [] past = let e = le-ltb value limit past in rw e refl
number_from-past limit value (byte ∷ bytes) past =
    none_from_digits (is_ascii_digit byte) limit _ (number_from-past limit (value * 10 + (byte - 48)) bytes (omega arith))

-- a value that one more digit brings past the limit
pub number_from_over : (limit value : ℕ) (digits : List ℕ) (i : ℕ) → i < length digits → limit ≤ value * 10 + (get_or digits i 0 - 48) → number_from limit value (drop i digits) ≡ None
number_from_over limit value digits i inside over =
    rw (drop_more digits i 0 inside) (none_from_digits (is_ascii_digit (get_or digits i 0)) limit _ (number_from-past limit (value * 10 + (get_or digits i 0 - 48)) (drop (i + 1) digits) over))

below-within : (limit : ℕ) (digits : Option ℕ) (value : ℕ) → option_and_then (below limit) digits ≡ Some value → value < limit
below-within limit None value e = cc
below-within limit (Some n) value e = kept (ltb n limit) refl e where
  kept : (small : Bool) → ltb n limit ≡ small → cond small (Some n) None ≡ Some value → value < limit
  kept true test e = let le = ltb-true n limit test in let same : n ≡ value = cc in omega arith
  kept false test e = cc

-- a number is below its limit
pub number_within : (limit : ℕ) (word : List ℕ) (value : ℕ) → number limit word ≡ Some value → value < limit
number_within limit [] value e = cc
number_within limit (byte ∷ bytes) value e = below-within limit (digits_after 0 (byte ∷ bytes)) value e

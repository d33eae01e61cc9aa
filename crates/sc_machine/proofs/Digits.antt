-- How many digits a word has.
use Rattle.std.proofs.Common.{ℕ, ◌^◌, ◌<◌, ◌≤◌, length, arith}
use Rattle.std.specs.Fmt.{decimal}
use Rattle.std.proofs.lemmas.Fmt.{length-decimal-le}

-- a word has at most 20 digits
pub length-word-le : (n : ℕ) → n < 2 ^ 64 → length (decimal n) ≤ 20
length-word-le n fits = length-decimal-le 20 n (omega arith) (omega arith) fits

-- The operand stack of a thread that runs: an array of words, and how many of them are on it.
use Rattle.std.specs.Prelude.{ℕ, List, take, reverse}

-- the words on the stack, the topmost first, where so many of the array are on it
unfoldable pub operands : List ℕ → ℕ → List ℕ
operands words depth = reverse (take depth words)

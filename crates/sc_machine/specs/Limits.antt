-- How much an instruction may do.
use Rattle.std.specs.Prelude.{ℕ}

-- the most bytes that one instruction prints: the digits of a word and a line feed
abbrev pub line_limit : ℕ
line_limit = 21

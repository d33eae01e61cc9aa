-- The first line of printed bytes. Only private clauses cite this module.
use Rattle.std.specs.Prelude.{ℕ, ◌+◌, ◌==◌, if◌then◌else◌, List, [], ◌∷◌}

-- the length of the first line, with its line feed; of all bytes where there is none
abbrev pub line_length : List ℕ → ℕ
line_length [] = 0
line_length (byte ∷ bytes) = if byte == 10 then 1 else line_length bytes + 1

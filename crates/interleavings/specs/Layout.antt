-- Where the shared words lie in one row: how many names were drawn, then of each cell its value and its number, then the
-- monitors.
use Rattle.std.specs.Prelude.{ℕ, ◌+◌, ◌*◌, ◌<◌}
use Rattle.interleavings.specs.AtomicStep.{SharedWord, Drawn, Value, Number, Monitor}

-- the place of a word in a row with so many cells
abbrev pub index_of : ℕ → SharedWord → ℕ
index_of cells Drawn = 0
index_of cells (Value cell) = 2 * cell + 1
index_of cells (Number cell) = 2 * cell + 2
index_of cells (Monitor monitor) = 2 * cells + 1 + monitor

-- the length of a row with so many cells and monitors
abbrev pub row_length : ℕ → ℕ → ℕ
row_length cells monitors = 2 * cells + 1 + monitors

-- the row has the word
abbrev pub IsInRow : ℕ → ℕ → SharedWord → Type 0
IsInRow cells monitors Drawn = Unit {0}
IsInRow cells monitors (Value cell) = cell < cells
IsInRow cells monitors (Number cell) = cell < cells
IsInRow cells monitors (Monitor monitor) = monitor < monitors

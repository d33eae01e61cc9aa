-- Where the shared words lie: each cell and each monitor in a line of memory of its own, and the count of names in one of its
-- own too, so that no two threads that step on different ones meet in one line.
use Rattle.std.specs.Prelude.{ℕ, ◌+◌, ◌*◌, ◌-◌, ◌/◌, ◌%◌, ◌==◌, ◌<◌, Bool, true, false, List, length, map, nat_le}
use Rattle.std.specs.List.{range_with_len}
use Rattle.stride_isa.specs.declared.limits.TheConstants.{MONITOR_LIMIT}
use Rattle.interleavings.specs.AtomicStep.{SharedWord, Drawn, Value, Number, Monitor}
use Rattle.interleavings.specs.History.{start_words}
use Rattle.shared_rule.specs.declared.lines.TheConstants.{LINE_WORDS}

-- the line of a word: the count of names has the first, then come as many as there can be monitors, then the cells, of which
-- each has its value and its number in one line
abbrev pub line_of : SharedWord → ℕ
line_of Drawn = 0
line_of (Monitor monitor) = monitor + 1
line_of (Value cell) = cell + MONITOR_LIMIT + 1
line_of (Number cell) = cell + MONITOR_LIMIT + 1

-- its place in the line
abbrev pub offset_of : SharedWord → ℕ
offset_of Drawn = 0
offset_of (Monitor monitor) = 0
offset_of (Value cell) = 0
offset_of (Number cell) = 1

-- its place among all words
abbrev pub index_of : SharedWord → ℕ
index_of word = LINE_WORDS * line_of word + offset_of word

-- how many words there are for so many cells
abbrev pub width : ℕ → ℕ
width cells = LINE_WORDS * (cells + MONITOR_LIMIT + 1)

-- the word is there, where there are so many cells
abbrev pub IsThere : ℕ → SharedWord → Type 0
IsThere cells Drawn = Unit {0}
IsThere cells (Monitor monitor) = monitor < MONITOR_LIMIT
IsThere cells (Value cell) = cell < cells
IsThere cells (Number cell) = cell < cells

-- the word in this line, by whether it is the first line, whether it is a monitor's, and whether the word is the first there
abbrev pub word_in_line : Bool → Bool → Bool → ℕ → SharedWord
word_in_line true of_monitor is_first line = Drawn
word_in_line false true is_first line = Monitor (line - 1)
word_in_line false false true line = Value (line - (MONITOR_LIMIT + 1))
word_in_line false false false line = Number (line - (MONITOR_LIMIT + 1))

-- the word at this place; where nothing is kept, any word
abbrev pub word_at : ℕ → SharedWord
word_at index = word_in_line (index / LINE_WORDS == 0) (nat_le (index / LINE_WORDS) MONITOR_LIMIT) (index % LINE_WORDS == 0) (index / LINE_WORDS)

-- the words at the start
abbrev pub opening_words : List ℕ → List ℕ
opening_words starts = map (λ index. start_words starts (word_at index)) (range_with_len 0 (width (length starts)))

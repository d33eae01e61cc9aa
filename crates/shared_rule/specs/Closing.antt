-- What is known once the sharing has ended.
use Rattle.std.specs.Prelude.{◌≡◌, ℕ, ◌+◌, ◌<◌, ◌≤◌, List, length, slice_get, Some, slice_index}
use Rattle.std.specs.Mem.Slots.{slots_items, slots_len}
use Rattle.interleavings.specs.AtomicStep.{SharedWord, Drawn, Number, IsIdle}
use Rattle.interleavings.specs.History.{Step, IsHistory, after}
use Rattle.interleavings.specs.Recording.{Among}
use Rattle.interleavings.specs.declared.activity.Activity.{Activity}
use Rattle.shared_rule.specs.declared.closed.Closed.{Closed}
use Rattle.shared_rule.specs.declared.limits.TheConstants.{DRAW_LIMIT}
use Rattle.shared_rule.specs.declared.view.View.{View}
use Rattle.shared_rule.specs.Lines.{index_of, width, IsThere}

-- a word as it was left
abbrev pub last_word : Closed → SharedWord → ℕ
last_word closed word = slice_index (slots_items closed.words.words) (index_of word)

-- the cell is there
abbrev pub HasCell : Closed → ℕ → Type 0
HasCell closed cell = index_of (Number cell) < slots_len closed.words.words

-- there are words of so many cells
abbrev pub HasCells : Closed → ℕ → Type 0
HasCells closed cells = slots_len closed.words.words ≡ width cells

-- one history of atomic steps has led from the starting values to the words that were left; its threads are as many as were
-- gathered, and each has done exactly what was gathered at its place, and is at no shared instruction
pub record IsOneHistory (starts : List ℕ) (gathered : List Activity) (closed : Closed) (steps : List Step) : Type 0 where
  pub lawful : IsHistory starts steps
  pub threads : (t : ℕ) → t < length gathered → slice_get gathered t ≡ Some ((after starts steps).people t).activity
  pub only : (s : Step) → Among s steps → s.who < length gathered
  pub idle : (t : ℕ) → IsIdle ((after starts steps).people t).activity.phase
  pub words : (word : SharedWord) → IsThere (length starts) word → (after starts steps).words word ≡ last_word closed word

-- where as many names were gathered as were drawn, what was gathered is of one history
abbrev pub IsWhole : View → Closed → Type 0
IsWhole v closed = length v.gathered ≡ last_word closed Drawn → (steps : List Step) × IsOneHistory v.starts v.gathered closed steps

-- no more were gathered than were drawn, and the draws that are left with the pass were not made by another
pub record AreCounted (v : View) (closed : Closed) : Type 0 where
  pub gathered : length v.gathered ≤ last_word closed Drawn
  pub drawn : v.draws + last_word closed Drawn ≤ DRAW_LIMIT

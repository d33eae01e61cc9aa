-- The labels of a thread, as a line sees them between the lines before it, of which the last stands first, and those
-- from it on.
use Rattle.std.specs.Prelude.{ℕ, ◌+◌, ◌||◌, Bool, true, false, if◌then◌else◌, List, [], ◌∷◌, Option, Some, None}
use Rattle.std.specs.Str.{bytes_eq}
use Rattle.assembler.specs.Forms.{Form}
use Rattle.assembler.specs.Forms.{Blank, VarLine, ArrayLine, MonitorLine, ThreadLine, LabelLine, WholeLine, NamingLine, Malformed}

abbrev pub is_thread_line : Form → Bool
is_thread_line ThreadLine = true
is_thread_line form = false

abbrev pub is_instruction : Form → Bool
is_instruction (WholeLine op) = true
is_instruction (NamingLine kind name) = true
is_instruction Blank = false
is_instruction (VarLine name start) = false
is_instruction (ArrayLine name size start) = false
is_instruction (MonitorLine name) = false
is_instruction ThreadLine = false
is_instruction (LabelLine name) = false
is_instruction Malformed = false

-- whether the line is the label of this name
abbrev pub bears : List ℕ → Form → Bool
bears name (LabelLine label) = bytes_eq label name
bears name form = false

-- the position that a label of this name has in the lines of a thread, where n instructions stand before them: that of
-- the thread's next instruction. A `thread` line ends the thread
abbrev pub place_of : List ℕ → ℕ → List Form → Option ℕ
place_of name n [] = None
place_of name n (form ∷ rest) =
    if is_thread_line form then None else (if bears name form then Some n else place_of name (if is_instruction form then n + 1 else n) rest)

-- whether a label of this name stands among the lines of the thread before a line, the last of which stands first
abbrev pub stands_before : List ℕ → List Form → Bool
stands_before name [] = false
stands_before name (form ∷ before) =
    if is_thread_line form then false else bears name form || stands_before name before

-- the lines of the thread from its first on, and all lines after it, where the lines before this place, the last of which
-- stands first, and the lines from it on are these
abbrev pub thread_lines : List Form → List Form → List Form
thread_lines [] rest = rest
thread_lines (form ∷ before) rest = if is_thread_line form then rest else thread_lines before (form ∷ rest)

-- what a line sees of the labels of its thread: the position of each, after it or before it, and whether an earlier line
-- bears it
pub record Labels : Type 0 where
  pub place : List ℕ → Option ℕ
  pub stands : List ℕ → Bool

-- the labels that the first of the lines from here on sees
abbrev pub labels_at : List Form → List Form → Labels
labels_at before rest = record { place = λ name. place_of name 0 (thread_lines before rest); stands = λ name. stands_before name before }

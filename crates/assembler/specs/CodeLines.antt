-- On which lines of a text the instructions of its threads stand.
use Rattle.std.specs.Prelude.{ℕ, ◌+◌, if◌then◌else◌, List, [], ◌∷◌}
use Rattle.std.specs.List.{slice_index_or}
use Rattle.assembler.specs.Forms.{Form}
use Rattle.assembler.specs.Labels.{is_thread_line, is_instruction}
use Rattle.assembler.specs.Programs.{forms_in}

-- where a thread stands: the number of its line `thread`, and those of the lines of its instructions, in order
pub record ThreadPlace : Type 0 where
  pub begins : ℕ
  pub code : List ℕ

-- what stands from a line on: the numbers of the lines of instructions up to the next line `thread`, and the threads
-- from there on
pub record Ahead : Type 0 where
  pub code : List ℕ
  pub threads : List ThreadPlace

-- what stands on these lines, the first of which has this number
abbrev pub ahead : ℕ → List Form → Ahead
ahead number [] = record { code = []; threads = [] }
ahead number (form ∷ rest) =
    let behind = ahead (number + 1) rest in
    if is_thread_line form then record { code = []; threads = record { begins = number; code = behind.code } ∷ behind.threads } else (if is_instruction form then record { code = number ∷ behind.code; threads = behind.threads } else behind)

-- where a thread that is not there stands: on line 0, where no line is
abbrev pub nowhere : ThreadPlace
nowhere = record { begins = 0; code = [] }

-- where each thread of a text stands
abbrev pub thread_places : List ℕ → List ThreadPlace
thread_places text = (ahead 1 (forms_in text)).threads

-- the number of the line on which the instruction of this position stands; that of the line `thread` where there is none
abbrev pub line_in : ThreadPlace → ℕ → ℕ
line_in place at = slice_index_or place.code at place.begins

-- the number of the line of a text on which an instruction of a thread stands, counted from 1
abbrev pub code_line : List ℕ → ℕ → ℕ → ℕ
code_line text thread at = line_in (slice_index_or (thread_places text) thread nowhere) at

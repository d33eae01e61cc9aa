-- The labels of a thread, from line to line.
use Rattle.std.proofs.Common.{◌≡◌, Bool, true, false, ◌||◌, cond, List, [], ◌∷◌, refl}
use Rattle.assembler.specs.Forms.{Form}
use Rattle.assembler.specs.Labels.{Labels, is_thread_line, bears, place_of, stands_before, thread_lines, labels_at}
use Rattle.assembler.specs.Seen.{labels_behind}

-- a line's labels are those of the line before it, unless that begins a thread
pub labels_at-behind : (before : List Form) (form : Form) (rest : List Form) → labels_at (form ∷ before) rest ≡ labels_behind (labels_at before (form ∷ rest)) form rest
labels_at-behind before form rest = at (is_thread_line form) where
  at : (thread : Bool) → ◌≡◌ {A = Labels} (record { place = λ name. place_of name 0 (cond thread rest (thread_lines before (form ∷ rest))); stands = λ name. cond thread false (bears name form || stands_before name before) }) (cond thread (labels_at [] rest) (record { place = λ name. place_of name 0 (thread_lines before (form ∷ rest)); stands = λ name. bears name form || stands_before name before }))
  at true = refl
  at false = refl

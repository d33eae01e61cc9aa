-- The steps of the loops that look for a thread and for an instruction.
use Rattle.std.proofs.Common.{◌≡◌, ℕ, zero, suc, ◌+◌, ◌-◌, ◌<◌, Bool, true, false, cond, List, ◌∷◌, refl, arith}
use Rattle.std.specs.List.{slice_index_or}
use Rattle.assembler.specs.CodeLines.{Ahead, ThreadPlace, ahead, nowhere}
use Rattle.assembler.specs.Forms.{Form, form_of}
use Rattle.assembler.specs.Labels.{is_thread_line, is_instruction}
use Rattle.assembler.specs.Lines.{lines}
use Rattle.assembler.specs.Programs.{forms_in}
use Rattle.assembler.specs.Words.{words_of}

-- the thread so many threads ahead of a text whose first line has this number
abbrev pub thread_ahead : ℕ → List ℕ → ℕ → ThreadPlace
thread_ahead number text left = slice_index_or (ahead number (forms_in text)).threads left nowhere

-- the line of the instruction so many instructions ahead, or else this line
abbrev pub line_ahead : ℕ → List ℕ → ℕ → ℕ → ℕ
line_ahead number text left begins = slice_index_or (ahead number (forms_in text)).code left begins

one_less : {A : Type 0} (x : A) (xs : List A) (left : ℕ) (other : A) → 0 < left → slice_index_or (x ∷ xs) left other ≡ slice_index_or xs (left - 1) other
one_less x xs zero other some = absurd (omega arith)
one_less x xs (suc left) other some = let same : suc left - 1 ≡ left = omega arith in rw same refl

module _ (number : ℕ) (text line after : List ℕ) (split : lines text ≡ line ∷ lines after) where
  abbrev form : Form
  form = form_of (words_of line)

  abbrev behind : Ahead
  behind = ahead (number + 1) (forms_in after)

  pub thread_here : is_thread_line form ≡ true → thread_ahead number text 0 ≡ record { begins = number; code = behind.code }
  thread_here begun = rw (split, begun) refl

  pub thread_past : (left : ℕ) → is_thread_line form ≡ true → 0 < left → thread_ahead number text left ≡ thread_ahead (number + 1) after (left - 1)
  thread_past left begun some = rw (split, begun) (one_less _ behind.threads left nowhere some)

  pub thread_later : (left : ℕ) → is_thread_line form ≡ false → thread_ahead number text left ≡ thread_ahead (number + 1) after left
  thread_later left other = rw (split, other) (at (is_instruction form)) where
    at : (b : Bool) → slice_index_or (cond b (record { code = number ∷ behind.code; threads = behind.threads }) behind).threads left nowhere ≡ slice_index_or behind.threads left nowhere
    at true = refl
    at false = refl

  pub code_ends : (left begins : ℕ) → is_thread_line form ≡ true → line_ahead number text left begins ≡ begins
  code_ends left begins begun = rw (split, begun) refl

  pub code_here : (begins : ℕ) → is_thread_line form ≡ false → is_instruction form ≡ true → line_ahead number text 0 begins ≡ number
  code_here begins other is = rw (split, other, is) refl

  pub code_past : (left begins : ℕ) → is_thread_line form ≡ false → is_instruction form ≡ true → 0 < left → line_ahead number text left begins ≡ line_ahead (number + 1) after (left - 1) begins
  code_past left begins other is some = rw (split, other, is) (one_less number behind.code left begins some)

  pub code_later : (left begins : ℕ) → is_thread_line form ≡ false → is_instruction form ≡ false → line_ahead number text left begins ≡ line_ahead (number + 1) after left begins
  code_later left begins other not = rw (split, other, not) refl

pub ruleset thread_steps = (thread_here, thread_past, thread_later)

pub ruleset code_steps = (code_ends, code_here, code_past, code_later)

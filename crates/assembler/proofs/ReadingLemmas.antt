-- Reading a program line by line.
use Rattle.std.proofs.Common.{◌≡◌, ℕ, ◌+◌, List, [], ◌∷◌, length, Option, Some, None, Result, Ok, Err, refl, sym, ap, ◌∙◌, arith}
use mathlib.Core.List.{reverse_aux}
use Rattle.std.specs.Option.{option_map}
use Rattle.stride_isa.specs.Listing.{Listing, empty}
use Rattle.assembler.specs.Forms.{Form, form_of}
use Rattle.assembler.specs.Labels.{Labels, labels_at}
use Rattle.assembler.specs.Lines.{lines}
use Rattle.assembler.specs.Programs.{LineFault, refusal, added, made, first_fault, or_else, unless_fault, forms_in, spelled}
use Rattle.assembler.specs.Seen.{labels_seen, labels_behind, IsInStep}
use Rattle.assembler.specs.Words.{words_of}
use Rattle.assembler.specs.declared.asm_error.AsmKind.{AsmKind}
use Rattle.assembler.specs.declared.assembly.Assembly.{Assembly}
use Rattle.assembler.specs.declared.thread_labels.ThreadLabels.{ThreadLabels}
use Rattle.assembler.proofs.LabelLemmas.{labels_at-behind}

-- a result where nothing is wrong with a line of this number
abbrev pub unless_wrong : Option AsmKind → ℕ → Result Listing LineFault → Result Listing LineFault
unless_wrong None number result = result
unless_wrong (Some kind) number result = Err (record { kind = kind; line = number })

-- what lines give after others, by which the program is p
abbrev pub reading : List Form → Listing → List Form → Result Listing LineFault
reading before p [] = Ok p
reading before p (form ∷ rest) =
    unless_wrong (refusal (labels_at before (form ∷ rest)) p form) (length before + 1) (reading (form ∷ before) (added (labels_at before (form ∷ rest)) p form) rest)

unless_wrong-fault : (wrong : Option AsmKind) (number : ℕ) (later : Option LineFault) (all : Listing) (result : Result Listing LineFault) → result ≡ unless_fault later all → unless_wrong wrong number result ≡ unless_fault (or_else (option_map (λ kind. record { kind = kind; line = number }) wrong) later) all
unless_wrong-fault None number later all result e = e
unless_wrong-fault (Some kind) number later all result e = refl

reading-made : (before rest : List Form) → reading before (made before rest) rest ≡ unless_fault (first_fault before rest) (made (reverse_aux rest before) [])
reading-made before [] = refl
reading-made before (form ∷ rest) =
    unless_wrong-fault (refusal (labels_at before (form ∷ rest)) (made before (form ∷ rest)) form) (length before + 1) (first_fault (form ∷ before) rest) (made (reverse_aux rest (form ∷ before)) []) _ (reading-made (form ∷ before) rest)

-- how far a text is read: after some lines the rest of the text gives what all of it spells
pub record IsReading (assembly : Assembly) (labels : ThreadLabels) (number : ℕ) (rest text : List ℕ) : Type 0 where
  pub before : List Form
  pub count : number ≡ length before + 1
  pub step : IsInStep assembly
  pub seen : labels_seen labels ≡ labels_at before (forms_in rest)
  pub answer : reading before assembly.program (forms_in rest) ≡ spelled text

pub reading_begins : (assembly : Assembly) (labels : ThreadLabels) (text : List ℕ) → IsInStep assembly → assembly.program ≡ empty → labels_seen labels ≡ labels_at [] (forms_in text) → IsReading assembly labels 1 text text
reading_begins assembly labels text step none seen = record {
  before = [];
  count = refl;
  step = step;
  seen = seen;
  answer = rw none (reading-made [] (forms_in text));
}

module _ (assembly : Assembly) (labels : ThreadLabels) (number : ℕ) (rest text line after : List ℕ) (r : IsReading assembly labels number rest text) (split : lines rest ≡ line ∷ lines after) where
  abbrev form : Form
  form = form_of (words_of line)

  -- the line is judged by the labels that are kept
  judged : unless_wrong (refusal (labels_seen labels) assembly.program form) number (reading (form ∷ r.before) (added (labels_seen labels) assembly.program form) (forms_in after)) ≡ spelled text
  judged = rw (r.seen, r.count, split) (rw split at r.answer)

  pub reading_goes_on : (assembly' : Assembly) (labels' : ThreadLabels) → refusal (labels_seen labels) assembly.program form ≡ None → IsInStep assembly' → assembly'.program ≡ added (labels_seen labels) assembly.program form → labels_seen labels' ≡ labels_behind (labels_seen labels) form (forms_in after) → IsReading assembly' labels' (number + 1) after text
  reading_goes_on assembly' labels' fine step more behind = record {
    before = form ∷ r.before;
    count = omega (arith, r.count);
    step = step;
    seen = behind ∙ (ap (λ (ls : Labels). labels_behind ls form (forms_in after)) (rw split at r.seen) ∙ sym (labels_at-behind r.before form (forms_in after)));
    answer = rw more (rw fine at judged);
  }

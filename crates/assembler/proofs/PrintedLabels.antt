-- The labels of a thread's printed lines: where each stands, and that none stands twice.
use Rattle.std.proofs.Common.{◌≡◌, ℕ, ◌+◌, ◌^◌, ◌<◌, ◌≤◌, Bool, true, false, List, [], ◌∷◌, length, Some, refl, ap, ◌∙◌, sym, inl, inr, arith}
use Rattle.std.proofs.lemmas.Bool.{cases_eq}
use Rattle.std.specs.Str.{bytes_eq}
use Rattle.stride_isa.specs.Listing.{Listing}
use Rattle.stride_isa.specs.declared.op.Op.{Op}
use Rattle.stride_isa.specs.declared.op.Op.TheVariants as ops
use Rattle.assembler.specs.Canonical.{label_name, is_target}
use Rattle.assembler.specs.Forms.{Form, LabelLine}
use Rattle.assembler.specs.Labels.{is_thread_line, is_instruction, bears, place_of, stands_before, thread_lines}
use Rattle.assembler.proofs.PrintedForms.{op_line, label_forms, code_forms}
use Rattle.assembler.proofs.PrintedNumbers.{bytes_eq-same, label_name-apart}

-- the line is that of an instruction: it neither begins a thread nor is a label
pub record IsOpLine (form : Form) : Type 0 where
  pub no_thread : is_thread_line form ≡ false
  pub no_label : (name : List ℕ) → bears name form ≡ false
  pub instruction : is_instruction form ≡ true

-- the printed line of an instruction is one
pub is_op_line : (p : Listing) (op : Op) → IsOpLine (op_line p op)
is_op_line p (ops.Push word) = record { no_thread = refl; no_label = λ name. refl; instruction = refl }
is_op_line p op = record { no_thread = refl; no_label = λ name. refl; instruction = refl }

-- an instruction is passed over in the search for a label, and counted
place_of-op : (form : Form) → IsOpLine form → (name : List ℕ) (n : ℕ) (rest : List Form) → place_of name n (form ∷ rest) ≡ place_of name (n + 1) rest
place_of-op form is name n rest =
    let no_thread = is.no_thread in
    let no_label = is.no_label name in
    let instruction = is.instruction in
    rw (no_thread, no_label, instruction) refl

-- the label of another position is passed over
place_of-label_other : (targeted : Bool) (at t n : ℕ) (rest : List Form) → bytes_eq (label_name at) (label_name t) ≡ false → place_of (label_name t) n (label_forms targeted at rest) ≡ place_of (label_name t) n rest
place_of-label_other true at t n rest apart = rw apart refl
place_of-label_other false at t n rest apart = refl

-- the label of the position is found
place_of-label_same : (targeted : Bool) (at t : ℕ) (rest : List Form) → targeted ≡ true → at ≡ t → place_of (label_name t) at (label_forms targeted at rest) ≡ Some t
place_of-label_same true at t rest is same =
    let alike : bytes_eq (label_name at) (label_name t) ≡ true = ap (λ k. bytes_eq (label_name at) (label_name k)) (sym same) ∙ bytes_eq-same (label_name at) in
    rw alike (ap (λ k. Some k) same)
place_of-label_same false at t rest is same = cc

-- the label of a position that is a target is found at the position
pub place_of-code : (p : Listing) (code : List Op) (t n : ℕ) (ops : List Op) (after : List Form) → is_target code t ≡ true → n + length ops < 2 ^ 64 → n ≤ t → t < n + length ops → place_of (label_name t) n (code_forms p code n ops after) ≡ Some t
place_of-code p code t n [] after is room from to = absurd (omega arith)
place_of-code p code t n (op ∷ ops) after is room from to =
    let rest = code_forms p code (n + 1) ops after in
    elim (cases_eq n t) [
      | inl same ↦ place_of-label_same (is_target code n) n t (op_line p op ∷ rest) (ap (is_target code) same ∙ is) same
      | inr differ ↦
          let apart = label_name-apart n t (omega arith) (omega arith) differ in
          place_of-label_other (is_target code n) n t n (op_line p op ∷ rest) apart ∙ place_of-op (op_line p op) (is_op_line p op) (label_name t) n rest ∙ place_of-code p code t (n + 1) ops after is (omega arith) (omega arith) (omega arith)
    ]

-- the lines before, with the label of a position where there is one
abbrev pub behind_label : Bool → ℕ → List Form → List Form
behind_label true at before = LabelLine (label_name at) ∷ before
behind_label false at before = before

-- the label line of a position brings no label of another position
pub stands_before-label : (targeted : Bool) (at t : ℕ) (before : List Form) → bytes_eq (label_name at) (label_name t) ≡ false → stands_before (label_name t) before ≡ false → stands_before (label_name t) (behind_label targeted at before) ≡ false
stands_before-label true at t before apart fresh = rw apart fresh
stands_before-label false at t before apart fresh = fresh

-- an instruction brings no label
pub stands_before-op : (form : Form) → IsOpLine form → (name : List ℕ) (before : List Form) → stands_before name (form ∷ before) ≡ stands_before name before
stands_before-op form is name before =
    let no_thread = is.no_thread in
    let no_label = is.no_label name in
    rw (no_thread, no_label) refl

-- after an instruction the lines of the thread are the same
pub thread_lines-op : (form : Form) → IsOpLine form → (before rest : List Form) → thread_lines (form ∷ before) rest ≡ thread_lines before (form ∷ rest)
thread_lines-op form is before rest = let no_thread = is.no_thread in rw no_thread refl

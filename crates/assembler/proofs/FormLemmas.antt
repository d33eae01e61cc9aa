-- What the forms of lines declare.
use Rattle.std.proofs.Common.{◌≡◌, ℕ, ◌+◌, ◌-◌, ◌≤◌, Bool, true, false, cond, eqb, leb, List, [], ◌∷◌, length, take, slice_index, Option, Some, None, IfSome, refl, arith}
use Rattle.std.specs.Option.{option_and_then}
use Rattle.std.proofs.lemmas.Bool.{leb-true}
use Rattle.stride_isa.specs.Instructions.{class, op_with}
use Rattle.stride_isa.specs.Limits.{array_limit}
use Rattle.stride_isa.specs.Names.{is_name}
use Rattle.stride_isa.specs.declared.op.OpKind.{OpKind}
use Rattle.stride_isa.specs.declared.operand.OperandClass.{OperandClass}
use Rattle.stride_isa.specs.declared.operand.OperandClass.TheVariants as classes
use Rattle.assembler.specs.Forms.{Form, VarLine, ArrayLine, MonitorLine, ThreadLine, LabelLine, WholeLine, NamingLine, Malformed}
use Rattle.assembler.specs.Forms.{Following, NoWord, OneWord, TwoWords, ThreeWords, following}
use Rattle.assembler.specs.Forms.{keyword_of, named, word_number, above_zero, size_number, var_form, array_form, line_named, name_form, number_form, operand_form, alone, label_form, form_by, form_of}
use Rattle.assembler.specs.Numbers.{number}
use Rattle.assembler.specs.Seen.{IsWellDeclared}
use Rattle.assembler.specs.declared.keyword.Keyword.{Keyword}
use Rattle.assembler.specs.declared.keyword.Keyword.TheVariants.{Var, Array, Monitor, Thread, Instruction, Other}
use Rattle.assembler.proofs.NumberLemmas.{number_within}

above_zero-least : (n size : ℕ) → above_zero n ≡ Some size → 1 ≤ size
above_zero-least n size e = kept (leb 1 n) refl e where
  kept : (above : Bool) → leb 1 n ≡ above → cond above (Some n) None ≡ Some size → 1 ≤ size
  kept true test e = let le = leb-true 1 n test in let same : n ≡ size = cc in omega arith
  kept false test e = cc

above_zero-same : (n size : ℕ) → above_zero n ≡ Some size → n ≡ size
above_zero-same n size e = kept (leb 1 n) e where
  kept : (above : Bool) → cond above (Some n) None ≡ Some size → n ≡ size
  kept true e = cc
  kept false e = cc

-- an array's size
size_number-fits : (word : List ℕ) (size : ℕ) → size_number word ≡ Some size → (1 ≤ size) × (size ≤ array_limit)
size_number-fits word size e = fits (number (array_limit + 1) word) refl e where
  fits : (value : Option ℕ) → number (array_limit + 1) word ≡ value → option_and_then above_zero value ≡ Some size → (1 ≤ size) × (size ≤ array_limit)
  fits None spelled e = cc
  fits (Some n) spelled e =
      let small = number_within (array_limit + 1) word n spelled in
      let same = above_zero-same n size e in
      (above_zero-least n size e, omega arith)

IfSome-by : (value : Option ℕ) (P : ℕ → Type 0) → ((x : ℕ) → value ≡ Some x → P x) → IfSome value P
IfSome-by None P p = tt
IfSome-by (Some x) P p = p x refl

named-declared : (line : List ℕ → Form) (word : List ℕ) → (is_name word ≡ true → IsWellDeclared (line word)) → IsWellDeclared (named line word)
named-declared line word declared = at (is_name word) declared where
  at : (spelled : Bool) → (spelled ≡ true → IsWellDeclared (line word)) → IsWellDeclared (cond spelled (line word) Malformed)
  at true declared = declared refl
  at false declared = tt

var_form-declared : (words : Following) → IsWellDeclared (var_form words)
var_form-declared (OneWord name) = named-declared (λ n. VarLine n (Some 0)) name (λ e. e)
var_form-declared (TwoWords name start) = named-declared (λ n. VarLine n (word_number start)) name (λ e. e)
var_form-declared words = tt

array-declared : (name size : List ℕ) (start : Option ℕ) → IsWellDeclared (named (λ n. ArrayLine n (size_number size) start) name)
array-declared name size start =
    named-declared (λ n. ArrayLine n (size_number size) start) name (λ e. (e, IfSome-by _ _ (λ s h. (size_number-fits size s h).0), IfSome-by _ _ (λ s h. (size_number-fits size s h).1)))

array_form-declared : (words : Following) → IsWellDeclared (array_form words)
array_form-declared (TwoWords name size) = array-declared name size (Some 0)
array_form-declared (ThreeWords name size start) = array-declared name size (word_number start)
array_form-declared words = tt

name_form-declared : (line : List ℕ → Form) → ((name : List ℕ) → is_name name ≡ true → IsWellDeclared (line name)) → (words : Following) → IsWellDeclared (name_form line words)
name_form-declared line declared (OneWord name) = at (is_name name) (declared name) where
  at : (spelled : Bool) → (spelled ≡ true → IsWellDeclared (line name)) → IsWellDeclared (line_named line (cond spelled (Some name) None))
  at true declared = declared refl
  at false declared = tt
name_form-declared line declared words = tt

number_form-declared : (kind : OpKind) (limit : ℕ) (words : Following) → IsWellDeclared (number_form kind limit words)
number_form-declared kind limit (OneWord word) = tt
number_form-declared kind limit words = tt

alone-declared : (form : Form) (words : Following) → IsWellDeclared form → IsWellDeclared (alone form words)
alone-declared form NoWord declared = declared
alone-declared form words declared = tt

operand_form-declared : (operand : OperandClass) (kind : OpKind) (words : Following) → IsWellDeclared (operand_form operand kind words)
operand_form-declared classes.Nothing kind words = alone-declared (WholeLine (Some (op_with kind 0))) words tt
operand_form-declared classes.Number kind words = number_form-declared kind _ words
operand_form-declared classes.Local kind words = number_form-declared kind _ words
operand_form-declared classes.Label kind words = name_form-declared (NamingLine kind) (λ _ _. tt) words
operand_form-declared classes.Variable kind words = name_form-declared (NamingLine kind) (λ _ _. tt) words
operand_form-declared classes.Array kind words = name_form-declared (NamingLine kind) (λ _ _. tt) words
operand_form-declared classes.Monitor kind words = name_form-declared (NamingLine kind) (λ _ _. tt) words

label_form-declared : (word : List ℕ) → IsWellDeclared (label_form word)
label_form-declared word = at (eqb (slice_index word (length word - 1)) 58) where
  at : (colon : Bool) → IsWellDeclared (cond colon (named LabelLine (take (length word - 1) word)) Malformed)
  at true = named-declared LabelLine (take (length word - 1) word) (λ _. tt)
  at false = tt

form_by-declared : (keyword : Keyword) (word : List ℕ) (words : Following) → IsWellDeclared (form_by keyword word words)
form_by-declared Var word words = var_form-declared words
form_by-declared Array word words = array_form-declared words
form_by-declared Monitor word words = name_form-declared MonitorLine (λ _ e. e) words
form_by-declared Thread word words = alone-declared ThreadLine words tt
form_by-declared (Instruction kind) word words = operand_form-declared (class kind) kind words
form_by-declared Other word words = alone-declared (label_form word) words (label_form-declared word)

-- what a line declares has a name, and an array a size that it may have
pub form_of_declared : (words : List (List ℕ)) → IsWellDeclared (form_of words)
form_of_declared [] = tt
form_of_declared (word ∷ words) = form_by-declared (keyword_of word) word (following words)

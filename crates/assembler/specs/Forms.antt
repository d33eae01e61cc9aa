-- What a line of a program's text says by itself.
use Rattle.std.specs.Prelude.{ℕ, ◌+◌, ◌-◌, ◌^◌, ◌==◌, List, [], ◌∷◌, codes, length, take, nat_le, slice_index, if◌then◌else◌, Option, Some, None, option_and_then}
use Rattle.std.specs.Option.{option_map}
use Rattle.std.specs.Str.{bytes_eq}
use Rattle.stride_isa.specs.Instructions.{class, kind_named, op_with}
use Rattle.stride_isa.specs.Limits.{array_limit, local_count}
use Rattle.stride_isa.specs.Names.{is_name}
use Rattle.stride_isa.specs.declared.op.Op.{Op}
use Rattle.stride_isa.specs.declared.op.OpKind.{OpKind}
use Rattle.stride_isa.specs.declared.operand.OperandClass.{OperandClass}
use Rattle.stride_isa.specs.declared.operand.OperandClass.TheVariants as classes
use Rattle.assembler.specs.Numbers.{number}
use Rattle.assembler.specs.declared.keyword.Keyword.{Keyword}
use Rattle.assembler.specs.declared.keyword.Keyword.TheVariants as keywords

-- the kinds of a line, each with what its words say; none stands where a number is wanted and the word is no number of
-- the range
pub data Form : Type 0 where
  -- no word
  Blank : Form
  -- a variable: its name and its starting value
  VarLine : List ℕ → Option ℕ → Form
  -- an array: its name, its size and the starting value of its cells
  ArrayLine : List ℕ → Option ℕ → Option ℕ → Form
  MonitorLine : List ℕ → Form
  ThreadLine : Form
  LabelLine : List ℕ → Form
  -- an instruction whose operand is a number, or that has none
  WholeLine : Option Op → Form
  -- an instruction whose operand has a name: a label, a variable, an array or a monitor
  NamingLine : OpKind → List ℕ → Form
  -- none of the forms
  Malformed : Form

-- the keyword of an instruction, where there is one of the name
abbrev pub keyword_of_kind : Option OpKind → Keyword
keyword_of_kind None = keywords.Other
keyword_of_kind (Some kind) = keywords.Instruction kind

-- what the first word of a line begins
abbrev pub keyword_of : List ℕ → Keyword
keyword_of word =
    if bytes_eq word (codes "var") then keywords.Var else (if bytes_eq word (codes "array") then keywords.Array else (if bytes_eq word (codes "monitor") then keywords.Monitor else (if bytes_eq word (codes "thread") then keywords.Thread else keyword_of_kind (kind_named word))))

-- the words after the first of a line, as far as any line has some
pub data Following : Type 0 where
  NoWord : Following
  OneWord : List ℕ → Following
  TwoWords : List ℕ → List ℕ → Following
  ThreeWords : List ℕ → List ℕ → List ℕ → Following
  MoreWords : Following

-- how the words after the first go on
abbrev pub following : List (List ℕ) → Following
following [] = NoWord
following (first ∷ []) = OneWord first
following (first ∷ second ∷ []) = TwoWords first second
following (first ∷ second ∷ third ∷ []) = ThreeWords first second third
following (first ∷ second ∷ third ∷ fourth ∷ words) = MoreWords

-- a line that has no word after its first
abbrev pub alone : Form → Following → Form
alone form NoWord = form
alone form words = Malformed

-- a line by its name, where the word is one
abbrev pub named : (List ℕ → Form) → List ℕ → Form
named line word = if is_name word then line word else Malformed

-- a number of 64 bits
abbrev pub word_number : List ℕ → Option ℕ
word_number word = number (2 ^ 64) word

-- a number where it is above 0
abbrev pub above_zero : ℕ → Option ℕ
above_zero value = if nat_le 1 value then Some value else None

-- a size that an array may have
abbrev pub size_number : List ℕ → Option ℕ
size_number word = option_and_then above_zero (number (array_limit + 1) word)

-- the declaration of a variable, by the words after `var`
abbrev pub var_form : Following → Form
var_form (OneWord name) = named (λ n. VarLine n (Some 0)) name
var_form (TwoWords name start) = named (λ n. VarLine n (word_number start)) name
var_form words = Malformed

-- the declaration of an array, by the words after `array`
abbrev pub array_form : Following → Form
array_form (TwoWords name size) = named (λ n. ArrayLine n (size_number size) (Some 0)) name
array_form (ThreeWords name size start) = named (λ n. ArrayLine n (size_number size) (word_number start)) name
array_form words = Malformed

-- the only word after the first of a line, where it is a name
abbrev pub only_name : Following → Option (List ℕ)
only_name (OneWord word) = if is_name word then Some word else None
only_name words = None

-- a line by its name, where there is one
abbrev pub line_named : (List ℕ → Form) → Option (List ℕ) → Form
line_named line (Some name) = line name
line_named line None = Malformed

-- a line that has one name after its first word
abbrev pub name_form : (List ℕ → Form) → Following → Form
name_form line words = line_named line (only_name words)

-- an instruction that has one number below the limit after its name
abbrev pub number_form : OpKind → ℕ → Following → Form
number_form kind limit (OneWord word) = WholeLine (option_map (op_with kind) (number limit word))
number_form kind limit words = Malformed

-- an instruction, by the class of its operand and the words after its name
abbrev pub operand_form : OperandClass → OpKind → Following → Form
operand_form classes.Nothing kind words = alone (WholeLine (Some (op_with kind 0))) words
operand_form classes.Number kind words = number_form kind (2 ^ 64) words
operand_form classes.Local kind words = number_form kind local_count words
operand_form classes.Label kind words = name_form (NamingLine kind) words
operand_form classes.Variable kind words = name_form (NamingLine kind) words
operand_form classes.Array kind words = name_form (NamingLine kind) words
operand_form classes.Monitor kind words = name_form (NamingLine kind) words

-- a label, by its word: a name and a colon
abbrev pub label_form : List ℕ → Form
label_form word =
    if slice_index word (length word - 1) == 58 then named LabelLine (take (length word - 1) word) else Malformed

-- a line, by its first word and the words after it
abbrev pub form_by : Keyword → List ℕ → Following → Form
form_by keywords.Var word words = var_form words
form_by keywords.Array word words = array_form words
form_by keywords.Monitor word words = name_form MonitorLine words
form_by keywords.Thread word words = alone ThreadLine words
form_by (keywords.Instruction kind) word words = operand_form (class kind) kind words
form_by keywords.Other word words = alone (label_form word) words

-- what the words of a line say
abbrev pub form_of : List (List ℕ) → Form
form_of [] = Blank
form_of (word ∷ words) = form_by (keyword_of word) word (following words)

-- What the assembler's own types stand for.
use Rattle.std.specs.Prelude.{◌≡◌, ◌≤◌, ◌||◌, ℕ, List, [], true, if◌then◌else◌, IfSome, is_some}
use Rattle.stride_isa.specs.Limits.{array_limit}
use Rattle.stride_isa.specs.Names.{is_name}
use Rattle.assembler.specs.Forms.{Form, Following, NoWord, OneWord, TwoWords, ThreeWords, MoreWords}
use Rattle.assembler.specs.Forms.{Blank, VarLine, ArrayLine, MonitorLine, ThreadLine, LabelLine, WholeLine, NamingLine, Malformed}
use Rattle.assembler.specs.Labels.{Labels, bears, is_thread_line, labels_at}
use Rattle.assembler.specs.Naming.{position_of}
use Rattle.assembler.specs.Programs.{find_decl, find_monitor, has_thread}
use Rattle.assembler.specs.declared.assembly.Assembly.{Assembly}
use Rattle.assembler.specs.declared.line.Line.{Line}
use Rattle.assembler.specs.declared.line.Line.TheVariants as line
use Rattle.assembler.specs.declared.operands.Operands.{Operands}
use Rattle.assembler.specs.declared.operands.Operands.TheVariants.{Nothing, One, Two, Three, More}
use Rattle.assembler.specs.declared.thread_labels.ThreadLabels.{ThreadLabels}

-- the words that are after the first of a line
abbrev pub words_seen : Operands → Following
words_seen Nothing = NoWord
words_seen (One first) = OneWord first.now
words_seen (Two first second) = TwoWords first.now second.now
words_seen (Three first second third) = ThreeWords first.now second.now third.now
words_seen More = MoreWords

-- the form that a line has
abbrev pub form : Line → Form
form line.Blank = Blank
form (line.Var name start) = VarLine name.now start
form (line.Array name size start) = ArrayLine name.now size start
form (line.Monitor name) = MonitorLine name.now
form line.Thread = ThreadLine
form (line.Label name) = LabelLine name.now
form (line.Whole op) = WholeLine op
form (line.Naming kind name) = NamingLine kind name.now
form line.Malformed = Malformed

-- what a line declares has a name, and an array that has a size has one that it may have
abbrev pub IsWellDeclared : Form → Type 0
IsWellDeclared (VarLine name start) = is_name name ≡ true
IsWellDeclared (ArrayLine name size start) = (is_name name ≡ true) × IfSome size (λ s. 1 ≤ s) × IfSome size (λ s. s ≤ array_limit)
IsWellDeclared (MonitorLine name) = is_name name ≡ true
IsWellDeclared Blank = Unit {0}
IsWellDeclared ThreadLine = Unit {0}
IsWellDeclared (LabelLine name) = Unit {0}
IsWellDeclared (WholeLine op) = Unit {0}
IsWellDeclared (NamingLine kind name) = Unit {0}
IsWellDeclared Malformed = Unit {0}

-- the labels that are kept, as a line sees them
abbrev pub labels_seen : ThreadLabels → Labels
labels_seen labels = record { place = λ name. position_of labels.places name; stands = λ name. is_some (position_of labels.passed name) }

-- the labels that the line after one sees, where that one sees these and the lines after it are the rest
abbrev pub labels_behind : Labels → Form → List Form → Labels
labels_behind labels form rest =
    if is_thread_line form then labels_at [] rest else record { place = labels.place; stands = λ name. bears name form || labels.stands name }

-- the names and the flag that are kept beside a program are its own
pub record IsInStep (assembly : Assembly) : Type 0 where
  pub decls : (name : List ℕ) → position_of assembly.decls name ≡ find_decl name assembly.program
  pub monitors : (name : List ℕ) → position_of assembly.monitors name ≡ find_monitor name assembly.program
  pub begun : assembly.begun ≡ has_thread assembly.program

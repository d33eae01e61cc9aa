-- The program that a text spells, or the first line that is refused.
use Rattle.std.specs.Prelude.{ℕ, ◌+◌, ◌||◌, Bool, true, false, not, nat_lt, nat_le, if◌then◌else◌, List, [], ◌∷◌, length, map, reverse, Option, Some, None, is_none, unwrap_or, Result, Ok, Err}
use Rattle.std.specs.Option.{option_map}
use Rattle.std.specs.Str.{bytes_eq}
use Rattle.stride_isa.specs.Instructions.{class, op_with}
use Rattle.stride_isa.specs.Limits.{cell_limit, instruction_limit, monitor_limit, thread_limit}
use Rattle.stride_isa.specs.Listing.{Listing, empty, is_taken, cell_count, instruction_count, with_decl, with_monitor, with_thread, with_op}
use Rattle.stride_isa.specs.declared.decl.Shape.TheVariants.{Single, Array}
use Rattle.stride_isa.specs.declared.op.Op.TheVariants as ops
use Rattle.stride_isa.specs.declared.operand.OperandClass.{OperandClass}
use Rattle.stride_isa.specs.declared.operand.OperandClass.TheVariants as classes
use Rattle.assembler.specs.Forms.{Form, form_of}
use Rattle.assembler.specs.Forms.{Blank, VarLine, ArrayLine, MonitorLine, ThreadLine, LabelLine, WholeLine, NamingLine, Malformed}
use Rattle.assembler.specs.Labels.{Labels, labels_at}
use Rattle.assembler.specs.Lines.{lines}
use Rattle.assembler.specs.Words.{words_of}
use Rattle.assembler.specs.declared.asm_error.AsmKind.{AsmKind}
use Rattle.assembler.specs.declared.asm_error.AsmKind.TheVariants.{BadLine, BadNumber, UnknownName, Twice, TooMany}

-- the position of a name in a row of names
abbrev pub find_name : List ℕ → List (List ℕ) → Option ℕ
find_name name [] = None
find_name name (other ∷ others) = if bytes_eq other name then Some 0 else option_map (λ at. at + 1) (find_name name others)

-- the position of the declaration of this name
abbrev pub find_decl : List ℕ → Listing → Option ℕ
find_decl name p = find_name name (map (λ d. d.name) p.decls)

-- the position of the monitor of this name
abbrev pub find_monitor : List ℕ → Listing → Option ℕ
find_monitor name p = find_name name p.monitors

-- the position of what has this name, for an operand of the class; an operand that is no name has none
abbrev pub find_named : OperandClass → Labels → Listing → List ℕ → Option ℕ
find_named classes.Nothing labels p name = None
find_named classes.Number labels p name = None
find_named classes.Local labels p name = None
find_named classes.Label labels p name = labels.place name
find_named classes.Variable labels p name = find_decl name p
find_named classes.Array labels p name = find_decl name p
find_named classes.Monitor labels p name = find_monitor name p

-- whether a thread has begun
abbrev pub has_thread : Listing → Bool
has_thread p = nat_lt 0 (length p.threads)

-- the line is of no form or stands in the wrong part: declarations stand before the first thread, labels and instructions
-- in a thread. Here and below the program is that of the lines before
abbrev pub is_bad_line : Listing → Form → Bool
is_bad_line p Malformed = true
is_bad_line p Blank = false
is_bad_line p ThreadLine = false
is_bad_line p (VarLine name start) = has_thread p
is_bad_line p (ArrayLine name size start) = has_thread p
is_bad_line p (MonitorLine name) = has_thread p
is_bad_line p (LabelLine name) = not (has_thread p)
is_bad_line p (WholeLine op) = not (has_thread p)
is_bad_line p (NamingLine kind name) = not (has_thread p)

-- a word where a number is wanted is no number of the range
abbrev pub is_bad_number : Form → Bool
is_bad_number (VarLine name start) = is_none start
is_bad_number (ArrayLine name size start) = is_none size || is_none start
is_bad_number (WholeLine op) = is_none op
is_bad_number Blank = false
is_bad_number (MonitorLine name) = false
is_bad_number ThreadLine = false
is_bad_number (LabelLine name) = false
is_bad_number (NamingLine kind name) = false
is_bad_number Malformed = false

-- what is wrong with naming what has this position, where the operand has this class
abbrev pub unknown_by : OperandClass → Option ℕ → Option AsmKind
unknown_by wanted (Some position) = None
unknown_by wanted None = Some (UnknownName wanted)

-- the line names what is not there: the refusal tells the class of what was wanted
abbrev pub unknown : Labels → Listing → Form → Option AsmKind
unknown labels p (NamingLine kind name) = unknown_by (class kind) (find_named (class kind) labels p name)
unknown labels p Blank = None
unknown labels p (VarLine name start) = None
unknown labels p (ArrayLine name size start) = None
unknown labels p (MonitorLine name) = None
unknown labels p ThreadLine = None
unknown labels p (LabelLine name) = None
unknown labels p (WholeLine op) = None
unknown labels p Malformed = None

-- the line declares a name that is declared, or is a label that stands on an earlier line of the thread
abbrev pub is_twice : Labels → Listing → Form → Bool
is_twice labels p (VarLine name start) = is_taken p name
is_twice labels p (ArrayLine name size start) = is_taken p name
is_twice labels p (MonitorLine name) = is_taken p name
is_twice labels p (LabelLine name) = labels.stands name
is_twice labels p Blank = false
is_twice labels p ThreadLine = false
is_twice labels p (WholeLine op) = false
is_twice labels p (NamingLine kind name) = false
is_twice labels p Malformed = false

-- whether a program with so many more cells has more than it may have
abbrev pub overfills : Listing → ℕ → Bool
overfills p size = nat_lt cell_limit (cell_count p.decls + size)

-- whether a program has as many instructions as it may have
abbrev pub has_all_instructions : Listing → Bool
has_all_instructions p = nat_le instruction_limit (instruction_count p.threads)

-- the line is one more than a program may have: of cells, monitors, threads or instructions
abbrev pub is_too_many : Listing → Form → Bool
is_too_many p (VarLine name start) = overfills p 1
is_too_many p (ArrayLine name size start) = overfills p (unwrap_or size 0)
is_too_many p (MonitorLine name) = nat_le monitor_limit (length p.monitors)
is_too_many p ThreadLine = nat_le thread_limit (length p.threads)
is_too_many p (WholeLine op) = has_all_instructions p
is_too_many p (NamingLine kind name) = has_all_instructions p
is_too_many p Blank = false
is_too_many p (LabelLine name) = false
is_too_many p Malformed = false

-- the first where there is one, or else the second
abbrev pub or_else : {X : Type 0} → Option X → Option X → Option X
or_else (Some x) second = Some x
or_else None second = second

-- what is wrong with the line: the first kind in this order, or nothing
abbrev pub refusal : Labels → Listing → Form → Option AsmKind
refusal labels p form =
    if is_bad_line p form then Some BadLine else (if is_bad_number form then Some BadNumber else or_else (unknown labels p form) (if is_twice labels p form then Some Twice else (if is_too_many p form then Some TooMany else None)))

-- the program with what the line adds to it
abbrev pub added : Labels → Listing → Form → Listing
added labels p (VarLine name start) = with_decl p (record { name = name; shape = Single; start = unwrap_or start 0 })
added labels p (ArrayLine name size start) = with_decl p (record { name = name; shape = Array (unwrap_or size 0); start = unwrap_or start 0 })
added labels p (MonitorLine name) = with_monitor p name
added labels p ThreadLine = with_thread p
added labels p (WholeLine op) = with_op p (unwrap_or op ops.Halt)
added labels p (NamingLine kind name) = with_op p (op_with kind (unwrap_or (find_named (class kind) labels p name) 0))
added labels p Blank = p
added labels p (LabelLine name) = p
added labels p Malformed = p

-- the program of the lines before a place, the last of which stands first, where these lines stand from it on
abbrev pub made : List Form → List Form → Listing
made [] rest = empty
made (form ∷ before) rest = added (labels_at before (form ∷ rest)) (made before (form ∷ rest)) form

-- a refused line: what is wrong with it, and its number, counted from 1
pub record LineFault : Type 0 where
  pub kind : AsmKind
  pub line : ℕ

-- what is wrong with the first of the lines from a place on
abbrev pub fault_of : List Form → Form → List Form → Option LineFault
fault_of before form rest =
    option_map (λ kind. record { kind = kind; line = length before + 1 }) (refusal (labels_at before (form ∷ rest)) (made before (form ∷ rest)) form)

-- the first fault of the lines from a place on
abbrev pub first_fault : List Form → List Form → Option LineFault
first_fault before [] = None
first_fault before (form ∷ rest) = or_else (fault_of before form rest) (first_fault (form ∷ before) rest)

-- a value where there is no fault
abbrev pub unless_fault : {X : Type 0} → Option LineFault → X → Result X LineFault
unless_fault None x = Ok x
unless_fault (Some fault) x = Err fault

-- what the lines of a text say
abbrev pub forms_in : List ℕ → List Form
forms_in text = map (λ line. form_of (words_of line)) (lines text)

-- the program that lines make, or their first fault: each line is judged between all lines before it and all lines after it
abbrev pub program_of : List Form → Result Listing LineFault
program_of forms = unless_fault (first_fault [] forms) (made (reverse forms) [])

-- the program that the text spells, or its first fault
abbrev pub spelled : List ℕ → Result Listing LineFault
spelled text = program_of (forms_in text)

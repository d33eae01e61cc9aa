-- The canonical text of a program: one spelling for each.
use Rattle.std.specs.Prelude.{ℕ, ◌+◌, ◌==◌, Bool, false, if◌then◌else◌, List, [], ◌∷◌, ◌++◌, map, codes, decimal, Option, Some, None}
use Rattle.std.specs.List.{flat_map, list_any, slice_index_or, join_with_byte}
use Rattle.stride_isa.specs.Instructions.{kind, operand, spelling}
use Rattle.stride_isa.specs.Listing.{Listing, decl_at}
use Rattle.stride_isa.specs.Validity.{target_of}
use Rattle.stride_isa.specs.declared.decl.Shape.{Shape}
use Rattle.stride_isa.specs.declared.decl.Shape.TheVariants as shapes
use Rattle.stride_isa.specs.declared.op.Op.{Op}
use Rattle.stride_isa.specs.declared.operand.Operand.{Operand}
use Rattle.stride_isa.specs.declared.operand.Operand.TheVariants.{Nothing, Number, Local, Label, Variable, Array, Monitor}

-- the words of a declaration
abbrev pub decl_words : List ℕ → Shape → ℕ → List (List ℕ)
decl_words name shapes.Single start = codes "var" ∷ name ∷ decimal start ∷ []
decl_words name (shapes.Array size) start = codes "array" ∷ name ∷ decimal size ∷ decimal start ∷ []

abbrev pub monitor_words : List ℕ → List (List ℕ)
monitor_words name = codes "monitor" ∷ name ∷ []

-- the name of the label at a position
abbrev pub label_name : ℕ → List ℕ
label_name at = 76 ∷ decimal at

-- whether this is the position, if there is one
abbrev pub is_place : ℕ → Option ℕ → Bool
is_place at (Some target) = target == at
is_place at None = false

-- whether an instruction jumps to the position
abbrev pub jumps_to : ℕ → Op → Bool
jumps_to at op = is_place at (target_of op)

-- whether a jump of the code has this target
abbrev pub is_target : List Op → ℕ → Bool
is_target code at = list_any (jumps_to at) code

-- the words of an operand
abbrev pub operand_words : Listing → Operand → List (List ℕ)
operand_words p Nothing = []
operand_words p (Number word) = decimal word ∷ []
operand_words p (Local local) = decimal local ∷ []
operand_words p (Label target) = label_name target ∷ []
operand_words p (Variable decl) = (decl_at p decl).name ∷ []
operand_words p (Array decl) = (decl_at p decl).name ∷ []
operand_words p (Monitor monitor) = slice_index_or p.monitors monitor [] ∷ []

-- the words of an instruction: its name and its operand
abbrev pub op_words : Listing → Op → List (List ℕ)
op_words p op = spelling (kind op) ∷ operand_words p (operand op)

-- the line of a label, exactly where a jump has the position as its target
abbrev pub label_lines : Bool → ℕ → List (List (List ℕ))
label_lines targeted at = if targeted then ((label_name at ++ 58 ∷ []) ∷ []) ∷ [] else []

-- the lines of the instructions from a position of the code on
abbrev pub code_lines : Listing → List Op → ℕ → List Op → List (List (List ℕ))
code_lines p code at [] = []
code_lines p code at (op ∷ ops) = label_lines (is_target code at) at ++ (op_words p op ∷ code_lines p code (at + 1) ops)

-- the lines of a thread
abbrev pub thread_lines : Listing → List Op → List (List (List ℕ))
thread_lines p code = (codes "thread" ∷ []) ∷ code_lines p code 0 code

-- the lines of a program, each as its words: variables and arrays, monitors, threads, each in order
abbrev pub canonical_lines : Listing → List (List (List ℕ))
canonical_lines p =
    map (λ d. decl_words d.name d.shape d.start) p.decls ++ (map monitor_words p.monitors ++ flat_map (thread_lines p) p.threads)

-- a line of words, divided by single spaces and ended by a line feed
abbrev pub line_of : List (List ℕ) → List ℕ
line_of words = join_with_byte 32 words ++ 10 ∷ []

-- the canonical text
abbrev pub canonical : Listing → List ℕ
canonical p = flat_map line_of (canonical_lines p)

-- a canonical text has fewer bytes than this
abbrev pub canonical_limit : ℕ
canonical_limit = 4000000

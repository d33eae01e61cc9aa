-- What the steps of reading refuse, seen beside what is wrong with a line.
use Rattle.std.specs.Prelude.{◌≡◌, ℕ, Bool, false, Option, Some, None, Result, Ok, Err, if◌then◌else◌}
use Rattle.stride_isa.specs.Listing.{Listing}
use Rattle.stride_isa.specs.declared.operand.OperandClass.{OperandClass}
use Rattle.stride_isa.specs.declared.program.AddError.{AddError}
use Rattle.stride_isa.specs.declared.program.AddError.TheVariants as additions
use Rattle.assembler.specs.Labels.{Labels}
use Rattle.assembler.specs.Programs.{has_all_instructions, has_thread, or_else, unknown_by}
use Rattle.assembler.specs.declared.asm_error.AsmError.{AsmError}
use Rattle.assembler.specs.declared.asm_error.AsmError.TheVariants as errors
use Rattle.assembler.specs.declared.asm_error.AsmKind.{AsmKind}
use Rattle.assembler.specs.declared.asm_error.AsmKind.TheVariants.{BadLine, Twice, TooMany}
use Rattle.assembler.specs.declared.refusal.Refusal.{Refusal}
use Rattle.assembler.specs.declared.refusal.Refusal.TheVariants as refusals

-- a line is taken where nothing is wrong with it, and refused for what is wrong; want of memory says nothing
abbrev pub Refuses : {X : Type 0} → Option AsmKind → Result X Refusal → Type 0
Refuses wrong (Ok x) = wrong ≡ None
Refuses wrong (Err (refusals.Bad kind)) = wrong ≡ Some kind
Refuses wrong (Err refusals.NoMemory) = Unit {0}

-- a refusal as it is told of a line
abbrev pub told : ℕ → Refusal → AsmError
told line (refusals.Bad kind) = errors.Bad kind line
told line refusals.NoMemory = errors.NoMemory

-- a refusal of a program to take something more, as a refusal of the line
abbrev pub refusal_by : AddError → Refusal
refusal_by additions.Twice = refusals.Bad Twice
refusal_by additions.TooMany = refusals.Bad TooMany
refusal_by additions.NoMemory = refusals.NoMemory

-- what is wrong with adding to a program, where a name is taken and where a limit is reached
abbrev pub wrong_by : Bool → Bool → Option AsmKind
wrong_by taken full = if taken then Some Twice else (if full then Some TooMany else None)

-- labels that no line bears
abbrev pub no_labels : Labels
no_labels = record { place = λ name. None; stands = λ name. false }

-- what is wrong with an instruction whose operand, of this class, names what has this position
abbrev pub wrong_naming : Listing → OperandClass → Option ℕ → Option AsmKind
wrong_naming p wanted position =
    if has_thread p then or_else (unknown_by wanted position) (wrong_by false (has_all_instructions p)) else Some BadLine

-- what is wrong with a label, where it may stand on an earlier line of the thread
abbrev pub wrong_label : Listing → Bool → Option AsmKind
wrong_label p is_passed = if has_thread p then wrong_by is_passed false else Some BadLine

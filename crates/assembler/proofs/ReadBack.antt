-- The canonical text of a valid program is read as this program.
use Rattle.std.proofs.Common.{◌≡◌, ℕ, ◌^◌, ◌<◌, ◌≤◌, Bool, true, zero, suc, List, [], ◌∷◌, map, length, get_or, Option, Some, None, Ok, refl, ap, sym, ◌∙◌, arith, eq-eqb}
use Rattle.std.proofs.lemmas.Bool.{or_left, or_right}
use Rattle.std.proofs.lemmas.List.{get_or-map, length-map}
use Rattle.std.proofs.lemmas.List.Elements.{All-from_recursion, recursion_from_All, All-from_get_or}
use Rattle.std.specs.List.{AllByRecursion, list_any, slice_index_or}
use Rattle.stride_isa.specs.Instructions.{operand}
use Rattle.stride_isa.specs.Limits.{instruction_limit}
use Rattle.stride_isa.specs.Listing.{Listing, empty, code_of, op_at, decl_at, instruction_count}
use Rattle.stride_isa.specs.Names.{is_name}
use Rattle.stride_isa.specs.Validity.{IsValid, IsThere, IsInside, Names, TargetsInside, label_of, target_of}
use Rattle.stride_isa.specs.WellFormed.{IsWellFormed, IsDeclaration, IsWord, PushesWord}
use Rattle.stride_isa.specs.declared.decl.Decl.{Decl}
use Rattle.stride_isa.specs.declared.decl.Shape.TheVariants.{Single}
use Rattle.stride_isa.specs.declared.op.Op.{Op}
use Rattle.stride_isa.specs.declared.op.Op.TheVariants as ops
use Rattle.stride_isa.specs.declared.operand.Operand.{Operand}
use Rattle.stride_isa.specs.declared.operand.Operand.TheVariants.{Nothing, Number, Local, Label, Variable, Array, Monitor}
use Rattle.assembler.specs.Canonical.{label_name, is_place, jumps_to, is_target}
use Rattle.assembler.specs.Forms.{Form}
use Rattle.assembler.specs.Laws.{CanonicalIsReadBack}
use Rattle.assembler.specs.Programs.{find_name, find_decl, find_monitor, program_of}
use Rattle.assembler.proofs.PrintedForms.{IsReadable, IsPrintable, IsPrintableCode, IsPrintableListing, canonical_forms, monitors_forms, threads_forms, forms_in-canonical}
use Rattle.assembler.proofs.PrintedLabels.{place_of-code}
use Rattle.assembler.proofs.PrintedNames.{distinct-first, distinct-second, find_name-at}
use Rattle.assembler.proofs.ReadCode.{IsFound, IsPlaced, IsPlacedCode, places_in, reading-threads}
use Rattle.assembler.proofs.ReadDecls.{declaring, reading-decls, reading-monitors}
use Rattle.assembler.proofs.ReadLines.{reading, program_of-reading}

-- a test that the element at a position passes is passed by some element
list_any-at : (test : Op → Bool) (code : List Op) (at : ℕ) → at < length code → test (get_or code at ops.Halt) ≡ true → list_any test code ≡ true
list_any-at test [] at inside passes = absurd (omega arith)
list_any-at test (op ∷ others) zero inside passes = or_left (test op) (list_any test others) passes
list_any-at test (op ∷ others) (suc at) inside passes = or_right (test op) (list_any test others) (list_any-at test others at (omega arith) passes)

-- a thread has no more instructions than all threads together
length-le-count : (threads : List (List Op)) (thread : ℕ) → length (get_or threads thread []) ≤ instruction_count threads
length-le-count [] thread = omega arith
length-le-count (code ∷ codes) zero = omega arith
length-le-count (code ∷ codes) (suc thread) = let less = length-le-count codes thread in omega arith

-- a declaration is found by its name
find_decl-at : (p : Listing) (decl : ℕ) → IsWellFormed p → decl < length p.decls → find_decl (decl_at p decl).name p ≡ Some decl
find_decl-at p decl formed inside =
    let name : Decl → List ℕ = λ d. d.name in
    let names = map name p.decls in
    let distinct = distinct-first names p.monitors formed.distinct in
    let read = get_or-map name p.decls decl (record { name = []; shape = Single; start = 0 }) [] inside in
    let found = find_name-at names decl (omega (arith, length-map p.decls name)) distinct in
    ap (λ bytes. find_name bytes names) (sym read) ∙ found

-- a monitor is found by its name
find_monitor-at : (p : Listing) (monitor : ℕ) → IsWellFormed p → monitor < length p.monitors → find_monitor (slice_index_or p.monitors monitor []) p ≡ Some monitor
find_monitor-at p monitor formed inside =
    find_name-at p.monitors monitor inside (distinct-second (map (λ (d : Decl). d.name) p.decls) p.monitors formed.distinct)

-- a declaration has a name
named_decl : (p : Listing) (decl : ℕ) → IsWellFormed p → decl < length p.decls → is_name (decl_at p decl).name ≡ true
named_decl p decl formed inside =
    (All-from_recursion IsDeclaration p.decls formed.decls decl (record { name = []; shape = Single; start = 0 }) inside).name

-- a monitor has a name
named_monitor : (p : Listing) (monitor : ℕ) → IsWellFormed p → monitor < length p.monitors → is_name (slice_index_or p.monitors monitor []) ≡ true
named_monitor p monitor formed inside =
    All-from_recursion (λ name. is_name name ≡ true) p.monitors formed.monitors monitor [] inside

-- an operand of an instruction of a program is printed as a word that is read again
readable-operand : (p : Listing) (thread : ℕ) (named : Operand) → IsWellFormed p → length (code_of p thread) < 2 ^ 64 → IsWord named → IsThere p named → IsInside p thread (label_of named) → IsReadable p named
readable-operand p thread Nothing formed short fits there inside = tt
readable-operand p thread (Number word) formed short fits there inside = fits
readable-operand p thread (Local local) formed short fits there inside = there
readable-operand p thread (Label target) formed short fits there inside = omega arith
readable-operand p thread (Variable decl) formed short fits there inside = named_decl p decl formed there.0
readable-operand p thread (Array decl) formed short fits there inside = named_decl p decl formed there.0
readable-operand p thread (Monitor monitor) formed short fits there inside = named_monitor p monitor formed there

printable-op : (p : Listing) (thread : ℕ) (op : Op) → IsWellFormed p → length (code_of p thread) < 2 ^ 64 → PushesWord op → Names p op → TargetsInside p thread op → IsPrintable p op
printable-op p thread op formed short fits names inside = readable-operand p thread (operand op) formed short fits names inside

-- each target in the code of a thread has its label at its position
abbrev FindsTargets : (List ℕ → Option ℕ) → List Op → Type 0
FindsTargets place code = (t : ℕ) → is_target code t ≡ true → t < length code → place (label_name t) ≡ Some t

-- what an operand of a program names is found where the instruction stands
found-operand : (p : Listing) (thread : ℕ) (named : Operand) (place : List ℕ → Option ℕ) → IsWellFormed p → ((t : ℕ) → label_of named ≡ Some t → is_target (code_of p thread) t ≡ true) → FindsTargets place (code_of p thread) → IsThere p named → IsInside p thread (label_of named) → IsFound place p named
found-operand p thread Nothing place formed stands finds there inside = tt
found-operand p thread (Number word) place formed stands finds there inside = tt
found-operand p thread (Local local) place formed stands finds there inside = tt
found-operand p thread (Label target) place formed stands finds there inside = finds target (stands target refl) inside
found-operand p thread (Variable decl) place formed stands finds there inside = find_decl-at p decl formed there.0
found-operand p thread (Array decl) place formed stands finds there inside = find_decl-at p decl formed there.0
found-operand p thread (Monitor monitor) place formed stands finds there inside = find_monitor-at p monitor formed there

is_place-same : (target : Option ℕ) (t : ℕ) → target ≡ Some t → is_place t target ≡ true
is_place-same (Some target) t e = let same : target ≡ t = cc in eq-eqb target t same
is_place-same None t e = absurd (cc)

-- what an instruction of a program names is found where it stands
placed-op : (p : Listing) (thread : ℕ) (op : Op) (place : List ℕ → Option ℕ) → IsWellFormed p → ((test : Op → Bool) → test op ≡ true → list_any test (code_of p thread) ≡ true) → FindsTargets place (code_of p thread) → Names p op → TargetsInside p thread op → IsPlaced place p op
placed-op p thread op place formed stands finds names inside =
    found-operand p thread (operand op) place formed (λ t e. stands (jumps_to t) (is_place-same (target_of op) t e)) finds names inside

-- the code of a thread has at most as many instructions as a program may have
short-code : (p : Listing) (thread : ℕ) → IsWellFormed p → length (code_of p thread) ≤ instruction_limit
short-code p thread formed =
    let less = length-le-count p.threads thread in
    let limit = formed.limits.instructions in
    omega arith

-- the operands in the code of a thread are printed as words that are read again
printable-code : (p : Listing) (thread : ℕ) → IsWellFormed p → IsValid p → thread < length p.threads → IsPrintableCode p (code_of p thread)
printable-code p thread formed valid inside =
    let short = short-code p thread formed in
    let small : length (code_of p thread) < 2 ^ 64 = omega arith in
    let words = All-from_recursion PushesWord (code_of p thread) (All-from_recursion (λ code. AllByRecursion PushesWord code) p.threads formed.words thread [] inside) in
    record {
      each = recursion_from_All (IsPrintable p) (code_of p thread) (All-from_get_or (IsPrintable p) (code_of p thread) ops.Halt (λ at here. printable-op p thread (op_at p thread at) formed small (words at ops.Halt here) (valid.names thread at inside here) (valid.targets thread at inside here)));
      short = small;
    }

-- so is what the code of a thread names
placed-code : (p : Listing) (thread : ℕ) → IsWellFormed p → IsValid p → thread < length p.threads → IsPlacedCode p (code_of p thread)
placed-code p thread formed valid inside =
    let code = code_of p thread in
    let short = short-code p thread formed in
    record {
      each = λ after.
          let place = places_in p code after in
          let finds : FindsTargets place code = λ t is to. place_of-code p code t 0 code after is (omega arith) (omega arith) (omega arith) in
          recursion_from_All (IsPlaced place p) code (All-from_get_or (IsPlaced place p) code ops.Halt (λ at here. placed-op p thread (op_at p thread at) place formed (λ test passes. list_any-at test code at here passes) finds (valid.names thread at inside here) (valid.targets thread at inside here)));
    }

-- so are all operands of a program
pub printable : (p : Listing) → IsWellFormed p → IsValid p → IsPrintableListing p
printable p formed valid =
    record {
      decls = formed.decls;
      monitors = formed.monitors;
      threads = recursion_from_All (IsPrintableCode p) p.threads (All-from_get_or (IsPrintableCode p) p.threads [] (λ thread inside. printable-code p thread formed valid inside));
    }

-- and what all threads name
placed : (p : Listing) → IsWellFormed p → IsValid p → AllByRecursion (IsPlacedCode p) p.threads
placed p formed valid =
    recursion_from_All (IsPlacedCode p) p.threads (All-from_get_or (IsPlacedCode p) p.threads [] (λ thread inside. placed-code p thread formed valid inside))

-- the lines of a program are read as the program
reading-canonical : (p : Listing) → IsWellFormed p → IsValid p → reading [] empty (canonical_forms p) ≡ Ok p
reading-canonical p formed valid =
    let names = map (λ (d : Decl). d.name) p.decls in
    let limits = formed.limits in
    let threads : (b : List Form) → reading b (declaring p.decls p.monitors) (threads_forms p p.threads) ≡ Ok p = λ b. reading-threads p [] p.threads b refl (placed p formed valid) (omega (arith, limits.threads)) (omega (arith, limits.instructions)) in
    let monitors : (b : List Form) → reading b (declaring p.decls []) (monitors_forms p.monitors (threads_forms p p.threads)) ≡ Ok p = λ b. reading-monitors (threads_forms p p.threads) (Ok p) p.decls [] p.monitors p.monitors b refl formed.distinct (omega (arith, limits.monitors)) threads in
    reading-decls (monitors_forms p.monitors (threads_forms p p.threads)) (Ok p) [] p.decls p.decls [] refl (distinct-first names p.monitors formed.distinct) limits.cells monitors

-- the canonical text of a valid program is read as this program
pub canonical_is_read_back : CanonicalIsReadBack
canonical_is_read_back p formed valid =
    ap program_of (forms_in-canonical p (printable p formed valid)) ∙ program_of-reading (canonical_forms p) ∙ reading-canonical p formed valid

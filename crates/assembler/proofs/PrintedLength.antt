-- How long the canonical text of a program may be.
use Rattle.std.proofs.Common.{◌≡◌, ℕ, ◌+◌, ◌*◌, ◌^◌, ◌<◌, ◌≤◌, ◌||◌, Bool, true, false, List, [], ◌∷◌, ◌++◌, map, flat_map, length, nat_lt, if◌then◌else◌, ◌==◌, codes, decimal, refl, arith, length-append}
use Rattle.std.specs.List.{AllByRecursion, join_with_byte, slice_index_or}
use Rattle.std.proofs.lemmas.Bool.{ltb-false, or_parts}
use Rattle.std.proofs.lemmas.Fmt.{length-decimal-le}
use Rattle.std.proofs.lemmas.Grind.{flat_map-append}
use Rattle.stride_isa.specs.Instructions.{kind, operand, spelling}
use Rattle.stride_isa.specs.Limits.{instruction_limit, name_limit}
use Rattle.std.proofs.lemmas.List.Sums.{sum_by-cons}
use Rattle.stride_isa.specs.Listing.{Listing, cell_count, cells_of, decl_at, instruction_count}
use Rattle.stride_isa.specs.Names.{is_name}
use Rattle.stride_isa.specs.Validity.{IsValid}
use Rattle.stride_isa.specs.WellFormed.{HasSize, IsDeclaration, IsWellFormed}
use Rattle.stride_isa.specs.declared.decl.Decl.{Decl}
use Rattle.stride_isa.specs.declared.decl.Shape.{Shape}
use Rattle.stride_isa.specs.declared.decl.Shape.TheVariants as shapes
use Rattle.stride_isa.specs.declared.op.Op.{Op}
use Rattle.stride_isa.specs.declared.op.OpKind.{OpKind}
use Rattle.stride_isa.specs.declared.op.OpKind.TheVariants as kinds
use Rattle.stride_isa.specs.declared.operand.Operand.{Operand}
use Rattle.stride_isa.specs.declared.operand.Operand.TheVariants.{Nothing, Number, Local, Label, Variable, Array, Monitor}
use Rattle.assembler.specs.Canonical.{canonical, canonical_limit, code_lines, decl_words, is_target, label_lines, label_name, line_of, monitor_words, op_words, operand_words, thread_lines}
use Rattle.assembler.proofs.PrintedForms.{IsReadable, IsPrintable, IsPrintableCode}
use Rattle.assembler.proofs.ReadBack.{printable}

-- the bytes of a word and of what ends it
abbrev size_of : List (List ℕ) → ℕ
size_of [] = 0
size_of (word ∷ words) = length word + 1 + size_of words

-- a line has its words' bytes, and one more after each
line_size : (word : List ℕ) (words : List (List ℕ)) → length (line_of (word ∷ words)) ≡ size_of (word ∷ words)
line_size word [] = omega (arith, length-append word (10 ∷ []))
line_size word (next ∷ words) =
    let rest = join_with_byte 32 (next ∷ words) in
    omega (arith, line_size next words, length-append (word ++ 32 ∷ rest) (10 ∷ []), length-append word (32 ∷ rest), length-append rest (10 ∷ []))

not_long : (long inner : Bool) → (if long then false else inner) ≡ true → long ≡ false
not_long true inner e = absurd (cc)
not_long false inner e = refl

-- a name has 32 bytes at most
name_short : (name : List ℕ) → is_name name ≡ true → length name ≤ 32
name_short name named =
    let fits = (or_parts (length name == 0) (nat_lt name_limit (length name)) (not_long ((length name == 0) || nat_lt name_limit (length name)) _ named)).1 in
    ltb-false 32 (length name) fits

-- a name of an instruction has 7 bytes at most
spelling_short : (k : OpKind) → length (spelling k) ≤ 7
spelling_short kinds.Push = omega arith
spelling_short k = omega arith

decimal_short : (n : ℕ) → n < 2 ^ 64 → length (decimal n) ≤ 20
decimal_short n fits = length-decimal-le 20 n (omega arith) (omega arith) fits

-- an operand has 32 bytes at most, and one after it
operand_short : (p : Listing) (named : Operand) → IsReadable p named → size_of (operand_words p named) ≤ 33
operand_short p Nothing fits = omega arith
operand_short p (Number word) fits = omega (arith, decimal_short word fits)
operand_short p (Local local) fits = omega (arith, decimal_short local (omega arith))
operand_short p (Label target) fits = omega (arith, decimal_short target fits)
operand_short p (Variable decl) fits = omega (arith, name_short (decl_at p decl).name fits)
operand_short p (Array decl) fits = omega (arith, name_short (decl_at p decl).name fits)
operand_short p (Monitor monitor) fits = omega (arith, name_short (slice_index_or p.monitors monitor []) fits)

op_short : (p : Listing) (op : Op) → IsPrintable p op → length (line_of (op_words p op)) ≤ 41
op_short p op fits =
    omega (arith, line_size (spelling (kind op)) (operand_words p (operand op)), spelling_short (kind op), operand_short p (operand op) fits)

-- the line of a label has 8 bytes at most: a position has 5 digits
label_short : (targeted : Bool) (at : ℕ) → at < 100000 → length (flat_map line_of (label_lines targeted at)) ≤ 8
label_short true at small =
    let word = label_name at ++ 58 ∷ [] in
    omega (arith, length-append (line_of (word ∷ [])) [], line_size word [], length-append (label_name at) (58 ∷ []), length-decimal-le 5 at (omega arith) (omega arith) (omega arith))
label_short false at small = omega arith

code_short : (p : Listing) (code : List Op) (at : ℕ) (ops : List Op) → AllByRecursion (IsPrintable p) ops → at + length ops ≤ 100000 → length (flat_map line_of (code_lines p code at ops)) ≤ 49 * length ops
code_short p code at [] fits room = omega arith
code_short p code at (op ∷ ops) fits room =
    let label = label_lines (is_target code at) at in
    let rest = code_lines p code (at + 1) ops in
    let parts : length (flat_map line_of (label ++ (op_words p op ∷ rest))) ≡ length (flat_map line_of label) + (length (line_of (op_words p op)) + length (flat_map line_of rest)) =
    rw (flat_map-append line_of label (op_words p op ∷ rest), length-append (flat_map line_of label) (flat_map line_of (op_words p op ∷ rest)), length-append (line_of (op_words p op)) (flat_map line_of rest)) refl in
    omega (arith, parts, label_short (is_target code at) at (omega arith), op_short p op fits.0, code_short p code (at + 1) ops fits.1 (omega arith))

threads_short : (p : Listing) (threads : List (List Op)) → AllByRecursion (IsPrintableCode p) threads → instruction_count threads ≤ instruction_limit → length (flat_map line_of (flat_map (thread_lines p) threads)) ≤ 7 * length threads + 49 * instruction_count threads
threads_short p [] fits few = omega arith
threads_short p (code ∷ others) fits few =
    let here = code_lines p code 0 code in
    let rest = flat_map (thread_lines p) others in
    let parts : length (flat_map line_of (here ++ rest)) ≡ length (flat_map line_of here) + length (flat_map line_of rest) =
    rw (flat_map-append line_of here rest, length-append (flat_map line_of here) (flat_map line_of rest)) refl in
    omega (arith, parts, code_short p code 0 code fits.0.each (omega arith), threads_short p others fits.1 (omega arith))

monitors_short : (names : List (List ℕ)) → AllByRecursion (λ name. is_name name ≡ true) names → length (flat_map line_of (map monitor_words names)) ≤ 41 * length names
monitors_short [] fits = omega arith
monitors_short (name ∷ names) fits =
    omega (arith, length-append (line_of (monitor_words name)) (flat_map line_of (map monitor_words names)), line_size (codes "monitor") (name ∷ []), name_short name fits.0, monitors_short names fits.1)

-- the line of a declaration has 64 bytes at most for each of its cells
decl_short : (d : Decl) → IsDeclaration d → length (line_of (decl_words d.name d.shape d.start)) ≤ 64 * cells_of d.shape
decl_short d is = of_shape d.shape is.size where
  of_shape : (shape : Shape) → HasSize shape → length (line_of (decl_words d.name shape d.start)) ≤ 64 * cells_of shape
  of_shape shapes.Single size =
      omega (arith, line_size (codes "var") (d.name ∷ decimal d.start ∷ []), name_short d.name is.name, decimal_short d.start is.start)
  of_shape (shapes.Array count) size =
      omega (arith, line_size (codes "array") (d.name ∷ decimal count ∷ decimal d.start ∷ []), name_short d.name is.name, decimal_short d.start is.start, length-decimal-le 3 count (omega arith) (omega arith) (omega arith))

decls_short : (decls : List Decl) → AllByRecursion IsDeclaration decls → length (flat_map line_of (map (λ d. decl_words d.name d.shape d.start) decls)) ≤ 64 * cell_count decls
decls_short [] fits = omega arith
decls_short (d ∷ decls) fits =
    omega (arith, length-append (line_of (decl_words d.name d.shape d.start)) (flat_map line_of (map (λ (e : Decl). decl_words e.name e.shape e.start) decls)), decl_short d fits.0, sum_by-cons (λ (e : Decl). cells_of e.shape) d decls, decls_short decls fits.1)

-- the canonical text of a valid program has fewer than four million bytes
pub canonical_short : (p : Listing) → IsWellFormed p → IsValid p → length (canonical p) < canonical_limit
canonical_short p formed valid =
    let decls = map (λ d. decl_words d.name d.shape d.start) p.decls in
    let monitors = map monitor_words p.monitors in
    let threads = flat_map (thread_lines p) p.threads in
    let prints = printable p formed valid in
    let parts : length (canonical p) ≡ length (flat_map line_of decls) + (length (flat_map line_of monitors) + length (flat_map line_of threads)) =
    rw (flat_map-append line_of decls (monitors ++ threads), flat_map-append line_of monitors threads, length-append (flat_map line_of decls) (flat_map line_of monitors ++ flat_map line_of threads), length-append (flat_map line_of monitors) (flat_map line_of threads)) refl in
    let limits = formed.limits in
    omega (arith, parts, decls_short p.decls formed.decls, monitors_short p.monitors formed.monitors, threads_short p p.threads prints.threads limits.instructions, limits.cells, limits.monitors, limits.threads, limits.instructions)

-- The printed lines of a program, and what they say by themselves.
use Rattle.std.proofs.Common.{◌≡◌, ℕ, ◌+◌, ◌-◌, ◌^◌, ◌<◌, ◌&&◌, Bool, true, false, if◌then◌else◌, List, [], ◌∷◌, ◌++◌, map, flat_map, length, Some, codes, decimal, refl, ap, ◌∙◌, append_assoc, length-append, arith, le-leb, take_at}
use Rattle.std.proofs.lemmas.List.{get_or_at}
use Rattle.std.specs.List.{list_all, AllByRecursion, slice_index_or}
use Rattle.stride_isa.specs.Instructions.{kind, operand}
use Rattle.stride_isa.specs.Limits.{local_count}
use Rattle.stride_isa.specs.Listing.{Listing, decl_at}
use Rattle.stride_isa.specs.Names.{is_name, continues_name}
use Rattle.stride_isa.specs.WellFormed.{HasSize, IsDeclaration}
use Rattle.stride_isa.specs.declared.decl.Decl.{Decl}
use Rattle.stride_isa.specs.declared.decl.Shape.{Shape}
use Rattle.stride_isa.specs.declared.decl.Shape.TheVariants as shapes
use Rattle.stride_isa.specs.declared.op.Op.{Op}
use Rattle.stride_isa.specs.declared.op.Op.TheVariants as ops
use Rattle.stride_isa.specs.declared.operand.Operand.{Operand}
use Rattle.stride_isa.specs.declared.operand.Operand.TheVariants.{Nothing, Number, Local, Label, Variable, Array, Monitor}
use Rattle.assembler.specs.Canonical.{decl_words, monitor_words, label_name, is_target, op_words, label_lines, code_lines, thread_lines, canonical_lines, canonical}
use Rattle.assembler.specs.Forms.{Form, VarLine, ArrayLine, MonitorLine, ThreadLine, LabelLine, WholeLine, NamingLine, label_form, form_of}
use Rattle.assembler.specs.Programs.{forms_in}
use Rattle.assembler.specs.Lines.{lines}
use Rattle.assembler.specs.Words.{words_of}
use Rattle.assembler.proofs.PrintedNumbers.{number-decimal, is_name-label, is_word-decimal, name_bytes-decimal, solid_from_name}
use Rattle.assembler.proofs.PrintedWords.{HasWords, is_word, is_solid, list_all-append, list_all-weaker, words_of-printed}

-- what the printed line of a declaration says
abbrev pub decl_line : List ℕ → Shape → ℕ → Form
decl_line name shapes.Single start = VarLine name (Some start)
decl_line name (shapes.Array size) start = ArrayLine name (Some size) (Some start)

-- what the printed line of an instruction with this operand says
abbrev pub operand_line : Listing → Op → Operand → Form
operand_line p op Nothing = WholeLine (Some op)
operand_line p op (Number word) = WholeLine (Some op)
operand_line p op (Local local) = WholeLine (Some op)
operand_line p op (Label target) = NamingLine (kind op) (label_name target)
operand_line p op (Variable decl) = NamingLine (kind op) (decl_at p decl).name
operand_line p op (Array decl) = NamingLine (kind op) (decl_at p decl).name
operand_line p op (Monitor monitor) = NamingLine (kind op) (slice_index_or p.monitors monitor [])

-- what the printed line of an instruction says
abbrev pub op_line : Listing → Op → Form
op_line p op = operand_line p op (operand op)

-- the lines from here on, after the label line of a position where there is one
abbrev pub label_forms : Bool → ℕ → List Form → List Form
label_forms true at rest = LabelLine (label_name at) ∷ rest
label_forms false at rest = rest

-- the lines of the instructions from a position of the code on, and the lines after them
abbrev pub code_forms : Listing → List Op → ℕ → List Op → List Form → List Form
code_forms p code at [] rest = rest
code_forms p code at (op ∷ ops) rest = label_forms (is_target code at) at (op_line p op ∷ code_forms p code (at + 1) ops rest)

-- what the printed lines of threads say
abbrev pub threads_forms : Listing → List (List Op) → List Form
threads_forms p [] = []
threads_forms p (code ∷ codes) = ThreadLine ∷ code_forms p code 0 code (threads_forms p codes)

-- what the printed lines of monitors say, and the lines after them
abbrev pub monitors_forms : List (List ℕ) → List Form → List Form
monitors_forms [] rest = rest
monitors_forms (name ∷ names) rest = MonitorLine name ∷ monitors_forms names rest

-- what the printed lines of declarations say, and the lines after them
abbrev pub decls_forms : List Decl → List Form → List Form
decls_forms [] rest = rest
decls_forms (d ∷ decls) rest = decl_line d.name d.shape d.start ∷ decls_forms decls rest

-- what the printed lines of a program say
abbrev pub canonical_forms : Listing → List Form
canonical_forms p = decls_forms p.decls (monitors_forms p.monitors (threads_forms p p.threads))

-- an operand is printed as a word that is read again
abbrev pub IsReadable : Listing → Operand → Type 0
IsReadable p Nothing = Unit {0}
IsReadable p (Number word) = word < 2 ^ 64
IsReadable p (Local local) = local < local_count
IsReadable p (Label target) = target < 2 ^ 64
IsReadable p (Variable decl) = is_name (decl_at p decl).name ≡ true
IsReadable p (Array decl) = is_name (decl_at p decl).name ≡ true
IsReadable p (Monitor monitor) = is_name (slice_index_or p.monitors monitor []) ≡ true

-- so is the operand of an instruction
abbrev pub IsPrintable : Listing → Op → Type 0
IsPrintable p op = IsReadable p (operand op)

-- so is the operand of each instruction of a thread, and its positions are numbers of 64 bits
pub record IsPrintableCode (p : Listing) (code : List Op) : Type 0 where
  pub each : AllByRecursion (IsPrintable p) code
  pub short : length code < 2 ^ 64

-- so is all that a program has
pub record IsPrintableListing (p : Listing) : Type 0 where
  pub decls : AllByRecursion IsDeclaration p.decls
  pub monitors : AllByRecursion (λ name. is_name name ≡ true) p.monitors
  pub threads : AllByRecursion (IsPrintableCode p) p.threads

-- the printed line of a declaration says the declaration
form_of-decl : (name : List ℕ) (shape : Shape) (start : ℕ) → is_name name ≡ true → HasSize shape → start < 2 ^ 64 → form_of (decl_words name shape start) ≡ decl_line name shape start
form_of-decl name shapes.Single start named size small =
    let read = number-decimal (2 ^ 64) start small small in
    rw (named, read) refl
form_of-decl name (shapes.Array count) start named size small =
    let read = number-decimal (2 ^ 64) start small small in
    let read_size = number-decimal 257 count (omega arith) (omega arith) in
    let some = le-leb 1 count (omega arith) in
    rw (named, read, read_size, some) refl

-- the printed line of a monitor says its name
form_of-monitor : (name : List ℕ) → is_name name ≡ true → form_of (monitor_words name) ≡ MonitorLine name
form_of-monitor name named = rw named refl

-- a name and a colon are the label of this name
label_form-colon : (name : List ℕ) → is_name name ≡ true → label_form (name ++ 58 ∷ []) ≡ LabelLine name
label_form-colon name named =
    let long : length (name ++ 58 ∷ []) - 1 ≡ length name = omega (arith, length-append name (58 ∷ [])) in
    rw (long, get_or_at name 58 [] 0 (length name) refl, take_at name (58 ∷ []) (length name) refl, named) refl

-- the printed line of a label says its name
form_of-label : (at : ℕ) → at < 2 ^ 64 → form_of ((label_name at ++ 58 ∷ []) ∷ []) ≡ LabelLine (label_name at)
form_of-label at small = label_form-colon (label_name at) (is_name-label at small)

-- the printed line of an instruction says the instruction
form_of-op : (p : Listing) (op : Op) → IsPrintable p op → form_of (op_words p op) ≡ op_line p op
form_of-op p (ops.Push word) fits = rw (number-decimal (2 ^ 64) word fits fits) refl
form_of-op p (ops.Get local) fits = rw (number-decimal local_count local fits (omega arith)) refl
form_of-op p (ops.Set local) fits = rw (number-decimal local_count local fits (omega arith)) refl
form_of-op p (ops.Jump target) fits = rw (is_name-label target fits) refl
form_of-op p (ops.Jz target) fits = rw (is_name-label target fits) refl
form_of-op p (ops.Jnz target) fits = rw (is_name-label target fits) refl
form_of-op p (ops.Read decl) fits = rw fits refl
form_of-op p (ops.Write decl) fits = rw fits refl
form_of-op p (ops.ReadAt decl) fits = rw fits refl
form_of-op p (ops.WriteAt decl) fits = rw fits refl
form_of-op p (ops.Xchg decl) fits = rw fits refl
form_of-op p (ops.AddTo decl) fits = rw fits refl
form_of-op p (ops.Cas decl) fits = rw fits refl
form_of-op p (ops.Enter monitor) fits = rw fits refl
form_of-op p (ops.Exit monitor) fits = rw fits refl
form_of-op p op fits = refl

-- the label line of a position, where it stands, says the label
forms-label : (targeted : Bool) (at : ℕ) (others : List (List (List ℕ))) → at < 2 ^ 64 → map form_of (label_lines targeted at ++ others) ≡ label_forms targeted at (map form_of others)
forms-label true at others small = ap (λ form. form ∷ map form_of others) (form_of-label at small)
forms-label false at others small = refl

-- the printed lines of the instructions from a position on say labels and instructions
forms-code : (p : Listing) (code : List Op) (at : ℕ) (ops : List Op) (others : List (List (List ℕ))) → AllByRecursion (IsPrintable p) ops → at + length ops < 2 ^ 64 → map form_of (code_lines p code at ops ++ others) ≡ code_forms p code at ops (map form_of others)
forms-code p code at [] others fits room = refl
forms-code p code at (op ∷ ops) others fits room =
    let rest = code_lines p code (at + 1) ops in
    let regrouped = append_assoc (label_lines (is_target code at) at) (op_words p op ∷ rest) others in
    rw (regrouped, forms-label (is_target code at) at (op_words p op ∷ (rest ++ others)) (omega arith), form_of-op p op fits.0, forms-code p code (at + 1) ops others fits.1 (omega arith)) refl

-- the printed lines of threads say the threads
forms-threads : (p : Listing) (threads : List (List Op)) → AllByRecursion (IsPrintableCode p) threads → map form_of (flat_map (thread_lines p) threads) ≡ threads_forms p threads
forms-threads p [] fits = refl
forms-threads p (code ∷ codes) fits =
    ap (λ forms. ThreadLine ∷ forms) (forms-code p code 0 code (flat_map (thread_lines p) codes) fits.0.each (omega (arith, fits.0.short)) ∙ ap (code_forms p code 0 code) (forms-threads p codes fits.1))

-- the printed lines of monitors say the monitors
forms-monitors : (names : List (List ℕ)) (others : List (List (List ℕ))) → AllByRecursion (λ name. is_name name ≡ true) names → map form_of (map monitor_words names ++ others) ≡ monitors_forms names (map form_of others)
forms-monitors [] others fits = refl
forms-monitors (name ∷ names) others fits =
    rw (form_of-monitor name fits.0, forms-monitors names others fits.1) refl

-- the printed lines of declarations say the declarations
forms-decls : (decls : List Decl) (others : List (List (List ℕ))) → AllByRecursion IsDeclaration decls → map form_of (map (λ d. decl_words d.name d.shape d.start) decls ++ others) ≡ decls_forms decls (map form_of others)
forms-decls [] others fits = refl
forms-decls (d ∷ decls) others fits =
    rw (form_of-decl d.name d.shape d.start fits.0.name fits.0.size fits.0.start, forms-decls decls others fits.1) refl

-- the printed lines of a program say the program
forms-canonical : (p : Listing) → IsPrintableListing p → map form_of (canonical_lines p) ≡ canonical_forms p
forms-canonical p fits =
    forms-decls p.decls (map monitor_words p.monitors ++ flat_map (thread_lines p) p.threads) fits.decls ∙ ap (decls_forms p.decls) (forms-monitors p.monitors (flat_map (thread_lines p) p.threads) fits.monitors ∙ ap (monitors_forms p.monitors) (forms-threads p p.threads fits.threads))

-- what passes the test of a name passes the last of its three tests
last_test : (too_long starts continues : Bool) → (if too_long then false else starts && continues) ≡ true → continues ≡ true
last_test true starts continues all = cc
last_test false true continues all = all
last_test false false continues all = cc

-- a name is a word
is_word-name : (name : List ℕ) → is_name name ≡ true → is_word name ≡ true
is_word-name [] named = cc
is_word-name (byte ∷ bytes) named =
    list_all-weaker continues_name is_solid solid_from_name (byte ∷ bytes) (last_test _ _ (list_all continues_name (byte ∷ bytes)) named)

-- a label's name and a colon are a word
is_word-label : (at : ℕ) → at < 2 ^ 64 → is_word (label_name at ++ 58 ∷ []) ≡ true
is_word-label at small =
    list_all-append is_solid (decimal at) (58 ∷ []) (list_all-weaker continues_name is_solid solid_from_name (decimal at) (name_bytes-decimal at small)) refl

-- a label's name is a word
is_word-label_name : (at : ℕ) → at < 2 ^ 64 → is_word (label_name at) ≡ true
is_word-label_name at small = is_word-name (label_name at) (is_name-label at small)

-- the words of a declaration are words
has_words-decl : (name : List ℕ) (shape : Shape) (start : ℕ) → is_name name ≡ true → HasSize shape → start < 2 ^ 64 → HasWords (decl_words name shape start)
has_words-decl name shapes.Single start named size small = (refl, (is_word-name name named, (is_word-decimal start small, tt)))
has_words-decl name (shapes.Array count) start named size small =
    (refl, (is_word-name name named, (is_word-decimal count (omega arith), (is_word-decimal start small, tt))))

-- the words of an instruction are words
has_words-op : (p : Listing) (op : Op) → IsPrintable p op → HasWords (op_words p op)
has_words-op p (ops.Push word) fits = (refl, (is_word-decimal word fits, tt))
has_words-op p (ops.Get local) fits = (refl, (is_word-decimal local (omega arith), tt))
has_words-op p (ops.Set local) fits = (refl, (is_word-decimal local (omega arith), tt))
has_words-op p (ops.Jump target) fits = (refl, (is_word-label_name target fits, tt))
has_words-op p (ops.Jz target) fits = (refl, (is_word-label_name target fits, tt))
has_words-op p (ops.Jnz target) fits = (refl, (is_word-label_name target fits, tt))
has_words-op p (ops.Read decl) fits = (refl, (is_word-name (decl_at p decl).name fits, tt))
has_words-op p (ops.Write decl) fits = (refl, (is_word-name (decl_at p decl).name fits, tt))
has_words-op p (ops.ReadAt decl) fits = (refl, (is_word-name (decl_at p decl).name fits, tt))
has_words-op p (ops.WriteAt decl) fits = (refl, (is_word-name (decl_at p decl).name fits, tt))
has_words-op p (ops.Xchg decl) fits = (refl, (is_word-name (decl_at p decl).name fits, tt))
has_words-op p (ops.AddTo decl) fits = (refl, (is_word-name (decl_at p decl).name fits, tt))
has_words-op p (ops.Cas decl) fits = (refl, (is_word-name (decl_at p decl).name fits, tt))
has_words-op p (ops.Enter monitor) fits = (refl, (is_word-name (slice_index_or p.monitors monitor []) fits, tt))
has_words-op p (ops.Exit monitor) fits = (refl, (is_word-name (slice_index_or p.monitors monitor []) fits, tt))
has_words-op p op fits = (refl, tt)

-- so are those of the label line of a position, where it stands
has_words-label : (targeted : Bool) (at : ℕ) (others : List (List (List ℕ))) → at < 2 ^ 64 → AllByRecursion HasWords others → AllByRecursion HasWords (label_lines targeted at ++ others)
has_words-label true at others small all = ((is_word-label at small, tt), all)
has_words-label false at others small all = all

-- those of the instructions from a position on
has_words-code : (p : Listing) (code : List Op) (at : ℕ) (ops : List Op) (others : List (List (List ℕ))) → AllByRecursion (IsPrintable p) ops → at + length ops < 2 ^ 64 → AllByRecursion HasWords others → AllByRecursion HasWords (code_lines p code at ops ++ others)
has_words-code p code at [] others fits room all = all
has_words-code p code at (op ∷ ops) others fits room all =
    let rest = code_lines p code (at + 1) ops in
    let regrouped = append_assoc (label_lines (is_target code at) at) (op_words p op ∷ rest) others in
    rw regrouped (has_words-label (is_target code at) at (op_words p op ∷ (rest ++ others)) (omega arith) (has_words-op p op fits.0, has_words-code p code (at + 1) ops others fits.1 (omega arith) all))

-- those of threads
has_words-threads : (p : Listing) (threads : List (List Op)) → AllByRecursion (IsPrintableCode p) threads → AllByRecursion HasWords (flat_map (thread_lines p) threads)
has_words-threads p [] fits = tt
has_words-threads p (code ∷ codes) fits =
    ((refl, tt), has_words-code p code 0 code (flat_map (thread_lines p) codes) fits.0.each (omega (arith, fits.0.short)) (has_words-threads p codes fits.1))

-- those of monitors
has_words-monitors : (names : List (List ℕ)) (others : List (List (List ℕ))) → AllByRecursion (λ name. is_name name ≡ true) names → AllByRecursion HasWords others → AllByRecursion HasWords (map monitor_words names ++ others)
has_words-monitors [] others fits all = all
has_words-monitors (name ∷ names) others fits all =
    ((refl, (is_word-name name fits.0, tt)), has_words-monitors names others fits.1 all)

-- those of declarations
has_words-decls : (decls : List Decl) (others : List (List (List ℕ))) → AllByRecursion IsDeclaration decls → AllByRecursion HasWords others → AllByRecursion HasWords (map (λ d. decl_words d.name d.shape d.start) decls ++ others)
has_words-decls [] others fits all = all
has_words-decls (d ∷ decls) others fits all =
    (has_words-decl d.name d.shape d.start fits.0.name fits.0.size fits.0.start, has_words-decls decls others fits.1 all)

-- and so all words of a program
has_words-canonical : (p : Listing) → IsPrintableListing p → AllByRecursion HasWords (canonical_lines p)
has_words-canonical p fits =
    has_words-decls p.decls (map monitor_words p.monitors ++ flat_map (thread_lines p) p.threads) fits.decls (has_words-monitors p.monitors (flat_map (thread_lines p) p.threads) fits.monitors (has_words-threads p p.threads fits.threads))

-- what is said line by line is said of the words of each line
map-map : (texts : List (List ℕ)) → map (λ line. form_of (words_of line)) texts ≡ map form_of (map words_of texts)
map-map [] = refl
map-map (line ∷ texts) = ap (λ forms. form_of (words_of line) ∷ forms) (map-map texts)

-- what the lines of the canonical text say
pub forms_in-canonical : (p : Listing) → IsPrintableListing p → forms_in (canonical p) ≡ canonical_forms p
forms_in-canonical p fits =
    map-map (lines (canonical p)) ∙ ap (map form_of) (words_of-printed (canonical_lines p) (has_words-canonical p fits)) ∙ forms-canonical p fits

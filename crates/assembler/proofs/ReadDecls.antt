-- The printed declarations and monitors of a program are read as its declarations and monitors.
use Rattle.std.proofs.Common.{◌≡◌, ℕ, ◌+◌, ◌≤◌, false, nat_le, List, [], ◌∷◌, ◌++◌, map, length, Result, refl, sym, ◌∙◌, subst, append_assoc, append-nil, arith, le-ltb}
use Rattle.std.proofs.lemmas.Bool.{lt-leb, or_parts, or_from}
use Rattle.std.proofs.lemmas.List.{length_push, map-append}
use Rattle.std.proofs.lemmas.List.Folds.{list_any-append}
use Rattle.std.proofs.lemmas.List.Sums.{sum_by-append, sum_by-cons}
use Rattle.std.specs.List.{IsDistinct, list_any}
use Rattle.std.specs.Str.{bytes_eq}
use Rattle.stride_isa.specs.Limits.{cell_limit, monitor_limit}
use Rattle.stride_isa.specs.Listing.{Listing, is_taken, cells_of, cell_count}
use Rattle.stride_isa.specs.declared.decl.Decl.{Decl}
use Rattle.stride_isa.specs.declared.decl.Shape.{Shape}
use Rattle.stride_isa.specs.declared.decl.Shape.TheVariants.{Single, Array}
use Rattle.assembler.specs.Forms.{Form, MonitorLine}
use Rattle.assembler.specs.Programs.{LineFault, overfills}
use Rattle.assembler.proofs.PrintedForms.{decl_line, decls_forms, monitors_forms}
use Rattle.assembler.proofs.PrintedNames.{none_before, any_name-decls}
use Rattle.assembler.proofs.ReadLines.{reading, reading-line}

-- the program of declarations and monitors, before the first thread
abbrev pub declaring : List Decl → List (List ℕ) → Listing
declaring decls monitors = record { decls = decls; monitors = monitors; threads = [] }

-- the line of a declaration adds the declaration
reading-decl : (decls : List Decl) (name : List ℕ) (shape : Shape) (start : ℕ) (before rest : List Form) → is_taken (declaring decls []) name ≡ false → overfills (declaring decls []) (cells_of shape) ≡ false → reading before (declaring decls []) (decl_line name shape start ∷ rest) ≡ reading (decl_line name shape start ∷ before) (declaring (decls ++ record { name = name; shape = shape; start = start } ∷ []) []) rest
reading-decl decls name Single start before rest free room = reading-line before _ _ rest _ (rw (free, room) refl) refl
reading-decl decls name (Array size) start before rest free room = reading-line before _ _ rest _ (rw (free, room) refl) refl

-- the name of a declaration is not taken by those before it
free_decl : (front decls : List Decl) (d : Decl) → IsDistinct bytes_eq (map (λ (e : Decl). e.name) (front ++ d ∷ decls)) → is_taken (declaring front []) d.name ≡ false
free_decl front decls d distinct =
    let split : map (λ (e : Decl). e.name) (front ++ d ∷ decls) ≡ map (λ (e : Decl). e.name) front ++ d.name ∷ map (λ (e : Decl). e.name) decls = map-append (λ (e : Decl). e.name) front (d ∷ decls) in
    let apart = subst (IsDistinct bytes_eq) split distinct in
    or_from (list_any (λ e. bytes_eq e.name d.name) front) false (any_name-decls d.name front ∙ none_before (map (λ (e : Decl). e.name) front) (map (λ (e : Decl). e.name) decls) d.name apart) refl

-- the cells of a declaration find room beside those before it
room_decl : (front decls : List Decl) (d : Decl) → cell_count (front ++ d ∷ decls) ≤ cell_limit → overfills (declaring front []) (cells_of d.shape) ≡ false
room_decl front decls d room =
    let all = sum_by-append (λ (e : Decl). cells_of e.shape) front (d ∷ decls) in
    let behind = sum_by-cons (λ (e : Decl). cells_of e.shape) d decls in
    le-ltb cell_limit (cell_count front + cells_of d.shape) (omega arith)

-- the lines of declarations add the declarations
pub reading-decls : (after : List Form) (goal : Result Listing LineFault) (front decls all : List Decl) (before : List Form) → front ++ decls ≡ all → IsDistinct bytes_eq (map (λ (e : Decl). e.name) all) → cell_count all ≤ cell_limit → ((b : List Form) → reading b (declaring all []) after ≡ goal) → reading before (declaring front []) (decls_forms decls after) ≡ goal
reading-decls after goal front [] all before whole distinct room finish =
    let same : front ≡ all = sym (append-nil front) ∙ whole in
    rw same (finish before)
reading-decls after goal front (d ∷ decls) all before whole distinct room finish =
    let split : all ≡ front ++ d ∷ decls = sym whole in
    let apart = subst (λ (ds : List Decl). IsDistinct bytes_eq (map (λ (e : Decl). e.name) ds)) split distinct in
    let fits = subst (λ (ds : List Decl). cell_count ds ≤ cell_limit) split room in
    reading-decl front d.name d.shape d.start before (decls_forms decls after) (free_decl front decls d apart) (room_decl front decls d fits)
    ∙ reading-decls after goal (front ++ d ∷ []) decls all (decl_line d.name d.shape d.start ∷ before) (append_assoc front (d ∷ []) decls ∙ whole) distinct room finish

-- the name of a monitor is not taken by the declarations and the monitors before it
free_monitor : (decls : List Decl) (front monitors : List (List ℕ)) (name : List ℕ) → IsDistinct bytes_eq (map (λ (e : Decl). e.name) decls ++ (front ++ name ∷ monitors)) → is_taken (declaring decls front) name ≡ false
free_monitor decls front monitors name distinct =
    let names = map (λ (e : Decl). e.name) decls in
    let apart = subst (IsDistinct bytes_eq) (sym (append_assoc names front (name ∷ monitors))) distinct in
    let none = sym (list_any-append (λ other. bytes_eq other name) names front) ∙ none_before (names ++ front) monitors name apart in
    let both = or_parts (list_any (λ other. bytes_eq other name) names) (list_any (λ other. bytes_eq other name) front) none in
    or_from (list_any (λ e. bytes_eq e.name name) decls) (list_any (λ other. bytes_eq other name) front) (any_name-decls name decls ∙ both.0) both.1

-- the lines of monitors add the monitors
pub reading-monitors : (after : List Form) (goal : Result Listing LineFault) (decls : List Decl) (front monitors all : List (List ℕ)) (before : List Form) → front ++ monitors ≡ all → IsDistinct bytes_eq (map (λ (e : Decl). e.name) decls ++ all) → length front + length monitors ≤ monitor_limit → ((b : List Form) → reading b (declaring decls all) after ≡ goal) → reading before (declaring decls front) (monitors_forms monitors after) ≡ goal
reading-monitors after goal decls front [] all before whole distinct room finish =
    let same : front ≡ all = sym (append-nil front) ∙ whole in
    rw same (finish before)
reading-monitors after goal decls front (name ∷ monitors) all before whole distinct room finish =
    let apart = subst (λ (names : List (List ℕ)). IsDistinct bytes_eq (map (λ (e : Decl). e.name) decls ++ names)) (sym whole) distinct in
    let free = free_monitor decls front monitors name apart in
    let few : nat_le monitor_limit (length front) ≡ false = lt-leb monitor_limit (length front) (omega arith) in
    reading-line before (declaring decls front) (MonitorLine name) (monitors_forms monitors after) (declaring decls (front ++ name ∷ [])) (rw (free, few) refl) refl
    ∙ reading-monitors after goal decls (front ++ name ∷ []) monitors all (MonitorLine name ∷ before) (append_assoc front (name ∷ []) monitors ∙ whole) distinct (omega (arith, length_push front name)) finish

-- What is added to a program keeps its counts, its first cells and its names in step.
use Rattle.std.proofs.Common.{◌≡◌, ℕ, ◌+◌, ◌<◌, ◌≤◌, ◌∙◌, ◌||◌, Bool, true, false, List, [], ◌∷◌, ◌++◌, length, map, refl, sym, ap, subst, arith, append_assoc, length-append, slice_index, get_or, inl, inr, zero, suc, set}
use Rattle.std.specs.List.{IsDistinct, AllByRecursion, list_any, slice_index_or}
use Rattle.std.specs.Str.{bytes_eq}
use Rattle.std.proofs.lemmas.Bool.{cases_lt}
use Rattle.std.proofs.lemmas.Cmp.{nat_list_eq_equiv}
use Rattle.std.proofs.lemmas.List.{take-append-le, map-append, append-nil}
use Rattle.std.proofs.lemmas.List.Sums.{sum_by_push, sum_by-cons}
use Rattle.std.proofs.Math.ListN.{get_or-append}
use Rattle.std.proofs.Math.Seq.{get_or-append_seam, take-append_seam}
use Rattle.stride_isa.specs.declared.decl.Decl.{Decl}
use Rattle.stride_isa.specs.declared.decl.Shape.{Shape}
use Rattle.stride_isa.specs.declared.op.Op.{Op}
use Rattle.stride_isa.specs.declared.decl.Shape.TheVariants.{Single, Array}
use Rattle.stride_isa.specs.Listing.{Listing, empty, is_taken, names_of, cells_of, cell_count, first_cell, instruction_count, push_last, with_decl, with_monitor, with_thread, with_op}
use Rattle.stride_isa.specs.Kept.{IsKept}
use Rattle.stride_isa.specs.Names.{is_name}
use Rattle.stride_isa.specs.WellFormed.{HasSize, IsDeclaration, PushesWord, IsWellFormed}

-- neither of two tests passes
or_false : (a b : Bool) → (a || b) ≡ false → (a ≡ false) × (b ≡ false)
or_false true b h = absurd (cc)
or_false false b h = (refl, h)

-- a fact of each element and of one more between them
all_insert : {X : Type 0} (P : X → Type 0) (xs ys : List X) (x : X) → P x → AllByRecursion P (xs ++ ys) → AllByRecursion P (xs ++ x ∷ ys)
all_insert P [] ys x p h = (p, h)
all_insert P (y ∷ xs) ys x p h = (h.0, all_insert P xs ys x p h.1)

turned : (n : List ℕ) (ys : List (List ℕ)) → AllByRecursion (λ y. bytes_eq y n ≡ false) ys → AllByRecursion (λ y. bytes_eq n y ≡ false) ys
turned n [] h = h
turned n (y ∷ ys) h = (nat_list_eq_equiv.symm n y ∙ h.0, turned n ys h.1)

-- names that differ, and one more that is none of them
distinct_insert : (xs ys : List (List ℕ)) (n : List ℕ) → AllByRecursion (λ y. bytes_eq y n ≡ false) (xs ++ ys) → IsDistinct bytes_eq (xs ++ ys) → IsDistinct bytes_eq (xs ++ n ∷ ys)
unfolding IsDistinct
distinct_insert [] ys n free h = (turned n ys free, h)
distinct_insert (x ∷ xs) ys n free h =
    (all_insert (λ y. bytes_eq x y ≡ false) xs ys n free.0 h.0, distinct_insert xs ys n free.1 h.1)

none_named : (monitors : List (List ℕ)) (n : List ℕ) → list_any (λ monitor. bytes_eq monitor n) monitors ≡ false → AllByRecursion (λ y. bytes_eq y n ≡ false) monitors
none_named [] n h = tt
none_named (m ∷ ms) n h = let both = or_false (bytes_eq m n) (list_any (λ monitor. bytes_eq monitor n) ms) h in (both.0, none_named ms n both.1)

none_taken : (decls : List Decl) (monitors : List (List ℕ)) (n : List ℕ) → list_any (λ (d : Decl). bytes_eq d.name n) decls ≡ false → list_any (λ monitor. bytes_eq monitor n) monitors ≡ false → AllByRecursion (λ y. bytes_eq y n ≡ false) (map (λ (d : Decl). d.name) decls ++ monitors)
none_taken [] monitors n h k = none_named monitors n k
none_taken (d ∷ ds) monitors n h k =
    let both = or_false (bytes_eq d.name n) (list_any (λ (d : Decl). bytes_eq d.name n) ds) h in (both.0, none_taken ds monitors n both.1 k)

-- a program's names do not have one that is not taken
free_names : (p : Listing) (n : List ℕ) → is_taken p n ≡ false → AllByRecursion (λ y. bytes_eq y n ≡ false) (names_of p)
free_names p n h =
    let both = or_false (list_any (λ (d : Decl). bytes_eq d.name n) p.decls) (list_any (λ monitor. bytes_eq monitor n) p.monitors) h in
    none_taken p.decls p.monitors n both.0 both.1

distinct_decl : (p : Listing) (d : Decl) → is_taken p d.name ≡ false → IsDistinct bytes_eq (names_of p) → IsDistinct bytes_eq (names_of (with_decl p d))
distinct_decl p d free h =
    let e : names_of (with_decl p d) ≡ map (λ (d : Decl). d.name) p.decls ++ d.name ∷ p.monitors = simp (map-append, append_assoc) in
    subst (IsDistinct bytes_eq) (sym e) (distinct_insert (map (λ (d : Decl). d.name) p.decls) p.monitors d.name (free_names p d.name free) h)

distinct_monitor : (p : Listing) (n : List ℕ) → is_taken p n ≡ false → IsDistinct bytes_eq (names_of p) → IsDistinct bytes_eq (names_of (with_monitor p n))
distinct_monitor p n free h =
    let e : names_of (with_monitor p n) ≡ names_of p ++ n ∷ [] = simp append_assoc in
    let P : List (List ℕ) → Type 0 = λ ns. IsDistinct bytes_eq ns in
    let Q : List (List ℕ) → Type 0 = λ ns. AllByRecursion (λ y. bytes_eq y n ≡ false) ns in
    subst P (sym e) (distinct_insert (names_of p) [] n (subst Q (sym (append-nil (names_of p))) (free_names p n free)) (subst P (sym (append-nil (names_of p))) h))

all_push : {X : Type 0} (P : X → Type 0) (xs : List X) (x : X) → AllByRecursion P xs → P x → AllByRecursion P (xs ++ x ∷ [])
all_push P [] x h p = (p, tt)
all_push P (y ∷ xs) x h p = (h.0, all_push P xs x h.1 p)

-- each declaration has a cell at least
pub length_le_cells : (decls : List Decl) → AllByRecursion IsDeclaration decls → length decls ≤ cell_count decls
length_le_cells [] h = omega arith
length_le_cells (d ∷ ds) h = omega (arith, length_le_cells ds h.1, one_cell d.shape h.0.size, sum_by-cons (λ (d : Decl). cells_of d.shape) d ds)
  where
    one_cell : (s : Shape) → HasSize s → 1 ≤ cells_of s
    one_cell Single h = omega arith
    one_cell (Array n) h = h.0

instructions_push : (xs : List (List Op)) (ys : List (List Op)) → instruction_count (xs ++ ys) ≡ instruction_count xs + instruction_count ys
instructions_push [] ys = omega arith
instructions_push (x ∷ xs) ys = omega (arith, instructions_push xs ys)

-- one more instruction in the last thread
instructions_last : (codes : List (List Op)) (op : Op) → 0 < length codes → instruction_count (push_last codes op) ≡ instruction_count codes + 1
instructions_last [] op h = absurd (omega arith)
instructions_last (code ∷ []) op h = omega (arith, length-append code (op ∷ []))
instructions_last (code ∷ next ∷ rest) op h = omega (arith, instructions_last (next ∷ rest) op (omega arith))

pub length_last : {X : Type 0} (codes : List (List X)) (x : X) → length (push_last codes x) ≡ length codes
length_last [] x = refl
length_last (code ∷ []) x = refl
length_last (code ∷ next ∷ rest) x = ap suc (length_last (next ∷ rest) x)

-- an element of the last list of a row, written in place
pub push_last_set : {V X : Type 0} (f : V → List X) (vs : List V) (i : ℕ) (d v : V) (x : X) → i + 1 ≡ length vs → f v ≡ f (get_or vs i d) ++ x ∷ [] → map f (set vs i v) ≡ push_last (map f vs) x
push_last_set f [] i d v x h e = absurd (omega arith)
push_last_set f (a ∷ []) zero d v x h e = ap (λ c. c ∷ []) e
push_last_set f (a ∷ []) (suc i) d v x h e = absurd (omega arith)
push_last_set f (a ∷ b ∷ vs) zero d v x h e = absurd (omega arith)
push_last_set f (a ∷ b ∷ vs) (suc i) d v x h e = ap (λ c. f a ∷ c) (push_last_set f (b ∷ vs) i d v x (omega arith) e)

-- one more instruction, whose word fits, after instructions whose words fit
words_last : (codes : List (List Op)) (op : Op) → AllByRecursion (λ code. AllByRecursion PushesWord code) codes → PushesWord op → AllByRecursion (λ code. AllByRecursion PushesWord code) (push_last codes op)
words_last [] op h p = h
words_last (code ∷ []) op h p = (all_push PushesWord code op h.0 p, tt)
words_last (code ∷ next ∷ rest) op h p = (h.0, words_last (next ∷ rest) op h.1 p)

formed_empty : IsWellFormed empty
unfolding IsDistinct
formed_empty = record {
  limits = record { cells = omega arith; monitors = omega arith; threads = omega arith; instructions = omega arith };
  distinct = tt;
  decls = tt;
  monitors = tt;
  words = tt;
}

pub kept_empty : IsKept empty [] 0 0
kept_empty = record {
  formed = formed_empty;
  cells = refl;
  instructions = refl;
  long = refl;
  firsts_at = λ at h. absurd (omega arith);
}

pub kept_decl : (p : Listing) (firsts : List ℕ) (c n : ℕ) (d : Decl) → IsKept p firsts c n → IsDeclaration d → is_taken p d.name ≡ false → c + cells_of d.shape ≤ 256 → IsKept (with_decl p d) (firsts ++ c ∷ []) (c + cells_of d.shape) n
kept_decl p firsts c n d h is free fits =
    let count : cell_count (p.decls ++ d ∷ []) ≡ cell_count p.decls + cells_of d.shape = sum_by_push (λ (d : Decl). cells_of d.shape) p.decls d in
    record {
      formed = record {
        limits = record { cells = omega (arith, count, h.cells); monitors = h.formed.limits.monitors; threads = h.formed.limits.threads; instructions = h.formed.limits.instructions };
        distinct = distinct_decl p d free h.formed.distinct;
        decls = all_push IsDeclaration p.decls d h.formed.decls is;
        monitors = h.formed.monitors;
        words = h.formed.words;
      };
      cells = omega (arith, count, h.cells);
      instructions = h.instructions;
      long = omega (arith, length-append firsts (c ∷ []), length-append p.decls (d ∷ []), h.long);
      firsts_at = λ at below. first_after at (omega (arith, length-append p.decls (d ∷ []), below));
    }
  where
    first_after : (at : ℕ) → at ≤ length p.decls → slice_index (firsts ++ c ∷ []) at ≡ first_cell (p.decls ++ d ∷ []) at
    first_after at le = elim (cases_lt at (length p.decls)) [
      | inl lt ↦ get_or-append firsts (c ∷ []) 0 at (omega (arith, h.long)) ∙ h.firsts_at at lt ∙ ap cell_count (sym (take-append-le at p.decls (d ∷ []) (omega arith)))
      | inr ge ↦
          let same : at ≡ length p.decls = omega arith in
          let there : at ≡ length firsts = omega (arith, h.long) in
          ap (slice_index (firsts ++ c ∷ [])) there ∙ get_or-append_seam firsts c [] 0 ∙ h.cells ∙ ap cell_count (sym (take-append_seam p.decls (d ∷ []))) ∙ ap (first_cell (p.decls ++ d ∷ [])) (sym same)
    ]

pub kept_monitor : (p : Listing) (firsts : List ℕ) (c n : ℕ) (name : List ℕ) → IsKept p firsts c n → is_name name ≡ true → is_taken p name ≡ false → length p.monitors < 64 → IsKept (with_monitor p name) firsts c n
kept_monitor p firsts c n name h is free fits = record {
  formed = record {
    limits = record { cells = h.formed.limits.cells; monitors = omega (arith, length-append p.monitors (name ∷ [])); threads = h.formed.limits.threads; instructions = h.formed.limits.instructions };
    distinct = distinct_monitor p name free h.formed.distinct;
    decls = h.formed.decls;
    monitors = all_push (λ name. is_name name ≡ true) p.monitors name h.formed.monitors is;
    words = h.formed.words;
  };
  cells = h.cells;
  instructions = h.instructions;
  long = h.long;
  firsts_at = h.firsts_at;
}

pub kept_thread : (p : Listing) (firsts : List ℕ) (c n : ℕ) → IsKept p firsts c n → length p.threads < 16 → IsKept (with_thread p) firsts c n
kept_thread p firsts c n h fits =
    let count = instructions_push p.threads ([] ∷ []) in
    record {
      formed = record {
        limits = record { cells = h.formed.limits.cells; monitors = h.formed.limits.monitors; threads = omega (arith, length-append p.threads ([] ∷ [])); instructions = omega (arith, count, h.formed.limits.instructions) };
        distinct = h.formed.distinct;
        decls = h.formed.decls;
        monitors = h.formed.monitors;
        words = all_push (λ code. AllByRecursion PushesWord code) p.threads [] h.formed.words tt;
      };
      cells = h.cells;
      instructions = omega (arith, count, h.instructions);
      long = h.long;
      firsts_at = h.firsts_at;
    }

pub kept_op : (p : Listing) (firsts : List ℕ) (c n : ℕ) (op : Op) → IsKept p firsts c n → 0 < length p.threads → PushesWord op → n < 65536 → IsKept (with_op p op) firsts c (n + 1)
kept_op p firsts c n op h some word fits =
    let count = instructions_last p.threads op some in
    record {
      formed = record {
        limits = record { cells = h.formed.limits.cells; monitors = h.formed.limits.monitors; threads = omega (arith, length_last p.threads op, h.formed.limits.threads); instructions = omega (arith, count, h.instructions) };
        distinct = h.formed.distinct;
        decls = h.formed.decls;
        monitors = h.formed.monitors;
        words = words_last p.threads op h.formed.words word;
      };
      cells = h.cells;
      instructions = omega (arith, count, h.instructions);
      long = h.long;
      firsts_at = h.firsts_at;
    }

-- no thread has more instructions than all threads together
pub code_within : {V : Type 0} (f : V → List Op) (vs : List V) (i : ℕ) (v : V) → i < length vs → v ≡ get_or vs i v → length (f v) ≤ instruction_count (map f vs)
code_within f [] i v lt e = absurd (omega arith)
code_within f (x ∷ vs) zero v lt e = let long : length (f v) ≡ length (f x) = ap (λ w. length (f w)) e in omega (arith, long)
code_within f (x ∷ vs) (suc i) v lt e = omega (arith, code_within f vs i v (omega arith) e)

pub op_within : (codes : List (List Op)) (i : ℕ) → length (slice_index_or codes i []) ≤ instruction_count codes
op_within [] i = omega arith
op_within (code ∷ codes) zero = omega arith
op_within (code ∷ codes) (suc i) = omega (arith, op_within codes i)

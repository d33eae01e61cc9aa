-- The steps of the loops that print a program.
use Rattle.std.proofs.Common.{◌≡◌, ℕ, ◌+◌, ◌<◌, Bool, false, List, [], ◌∷◌, ◌++◌, length, get_or, map, drop, refl, ap, ◌∙◌, append_assoc}
use Rattle.std.specs.List.{flat_map}
use Rattle.std.proofs.lemmas.Grind.{flat_map-append}
use Rattle.std.proofs.lemmas.List.{drop_more, get_or_read}
use Rattle.std.proofs.lemmas.List.Folds.{flat_map-map}
use Rattle.assembler.specs.Canonical.{canonical, code_lines, decl_words, is_target, label_lines, line_of, monitor_words, op_words, thread_lines}
use Rattle.stride_isa.specs.Listing.{Listing}
use Rattle.stride_isa.specs.declared.op.Op.{Op}
use Rattle.stride_isa.specs.declared.op.Op.TheVariants.{Halt}

-- what is written and the lines of a thread's code that are left make the whole, and one more instruction is written
pub code_more : (p : Listing) (code : List Op) (at : ℕ) (targeted : Bool) (op : Op) (old mid new whole : List ℕ) → at < length code → targeted ≡ is_target code at → op ≡ get_or code at Halt → old ++ flat_map line_of (code_lines p code at (drop at code)) ≡ whole → mid ≡ old ++ flat_map line_of (label_lines targeted at) → new ≡ mid ++ line_of (op_words p op) → new ++ flat_map line_of (code_lines p code (at + 1) (drop (at + 1) code)) ≡ whole
code_more p code at targeted op old mid new whole inside target is left label put =
    let from = rw (drop_more code at Halt inside, flat_map-append line_of (label_lines (is_target code at) at)) at left in
    rw (put, label, target, is) (simp append_assoc (simp append_assoc at from))

-- what is read of a row of Booleans
pub row_read : (row : List Bool) (at : ℕ) (read is : Bool) → at < length row → read ≡ get_or row at read → get_or row at false ≡ is → read ≡ is
row_read row at read is inside item there = get_or_read row at read inside item false ∙ there

flat_map-flat_map : {X Y : Type 0} (f : Y → List ℕ) (g : X → List Y) (xs : List X) → flat_map f (flat_map g xs) ≡ flat_map (λ x. flat_map f (g x)) xs
flat_map-flat_map f g [] = refl
flat_map-flat_map f g (x ∷ xs) =
    flat_map-append f (g x) (flat_map g xs) ∙ ap (λ rest. flat_map f (g x) ++ rest) (flat_map-flat_map f g xs)

-- the canonical text in its three parts
canonical_parts : (p : Listing) → canonical p ≡ flat_map (λ d. line_of (decl_words d.name d.shape d.start)) p.decls ++ (flat_map (λ name. line_of (monitor_words name)) p.monitors ++ flat_map (λ code. flat_map line_of (thread_lines p code)) p.threads)
canonical_parts p =
    let decls = map (λ d. decl_words d.name d.shape d.start) p.decls in
    let monitors = map monitor_words p.monitors in
    rw (flat_map-append line_of decls, flat_map-append line_of monitors, flat_map-flat_map line_of (thread_lines p) p.threads) (simp flat_map-map)

-- the three parts, written one after another
pub three_parts : (p : Listing) (start decls monitors whole : List ℕ) → start ≡ [] → decls ≡ start ++ flat_map (λ d. line_of (decl_words d.name d.shape d.start)) p.decls → monitors ≡ decls ++ flat_map (λ name. line_of (monitor_words name)) p.monitors → whole ≡ monitors ++ flat_map (λ code. flat_map line_of (thread_lines p code)) p.threads → whole ≡ canonical p
three_parts p start decls monitors whole none first second third =
    rw (third, second, first, none, canonical_parts p) (simp append_assoc)

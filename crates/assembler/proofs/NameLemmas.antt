-- Positions of names among declarations and among monitors.
use Rattle.std.proofs.Common.{◌≡◌, ℕ, ◌+◌, suc, Bool, true, false, ◌||◌, cond, List, [], ◌∷◌, ◌++◌, length, map, Option, Some, None, refl, sym, ap, ◌∙◌, add-one}
use Rattle.std.specs.List.{list_any}
use Rattle.std.specs.Map.{update}
use Rattle.std.specs.Option.{option_map}
use Rattle.std.specs.Str.{bytes_eq}
use Rattle.std.proofs.lemmas.Slice.Eq.{bytes_eq-Decides}
use Rattle.stride_isa.specs.Listing.{Listing, is_taken, with_decl, with_monitor}
use Rattle.stride_isa.specs.declared.decl.Decl.{Decl}
use Rattle.assembler.specs.Programs.{find_name, find_decl, find_monitor}

absent_after : (here later : Bool) (rest : Option ℕ) → (later ≡ false → rest ≡ None) → (here || later) ≡ false → cond here (Some 0) (option_map (λ at. at + 1) rest) ≡ None
absent_after true later rest absent none = cc
absent_after false later rest absent none = let e = absent none in rw e refl

new_after : (here : Bool) (old new : Option ℕ) (n : ℕ) → (old ≡ None → new ≡ Some n) → cond here (Some 0) (option_map (λ at. at + 1) old) ≡ None → cond here (Some 0) (option_map (λ at. at + 1) new) ≡ Some (suc n)
new_after true old new n found none = cc
new_after false None new n found none = let e = found refl in rw (e, add-one) refl
new_after false (Some at) new n found none = cc

find_name-new : (name : List ℕ) (names : List (List ℕ)) (last : List ℕ) → bytes_eq last name ≡ true → find_name name names ≡ None → find_name name (names ++ last ∷ []) ≡ Some (length names)
find_name-new name [] last same none = rw same refl
find_name-new name (other ∷ names) last same none =
    new_after (bytes_eq other name) (find_name name names) (find_name name (names ++ last ∷ [])) (length names) (find_name-new name names last same) none

find_name-other : (name : List ℕ) (names : List (List ℕ)) (last : List ℕ) → bytes_eq last name ≡ false → find_name name (names ++ last ∷ []) ≡ find_name name names
find_name-other name [] last other = rw other refl
find_name-other name (n ∷ names) last other = rw (find_name-other name names last other) refl

-- one more name, which is not there yet, is at the position after the others
find_name-push : (names : List (List ℕ)) (last name : List ℕ) → find_name last names ≡ None → update bytes_eq (λ w. find_name w names) last (Some (length names)) name ≡ find_name name (names ++ last ∷ [])
find_name-push names last name none =
    at (bytes_eq last name) refl where
      at : (here : Bool) → bytes_eq last name ≡ here → cond here (Some (length names)) (find_name name names) ≡ find_name name (names ++ last ∷ [])
      at true same =
          let e = (bytes_eq-Decides last name).0 same in
          sym (find_name-new name names last same (rw e at none))
      at false other = sym (find_name-other name names last other)

absent_decl : (name : List ℕ) (decls : List Decl) → list_any (λ d. bytes_eq d.name name) decls ≡ false → find_name name (map (λ d. d.name) decls) ≡ None
absent_decl name [] absent = refl
absent_decl name (d ∷ decls) absent =
    absent_after (bytes_eq d.name name) (list_any (λ e. bytes_eq e.name name) decls) (find_name name (map (λ e. e.name) decls)) (absent_decl name decls) absent

absent_monitor : (name : List ℕ) (monitors : List (List ℕ)) → list_any (λ m. bytes_eq m name) monitors ≡ false → find_name name monitors ≡ None
absent_monitor name [] absent = refl
absent_monitor name (m ∷ monitors) absent =
    absent_after (bytes_eq m name) (list_any (λ e. bytes_eq e name) monitors) (find_name name monitors) (absent_monitor name monitors) absent

no_first : (first second : Bool) → (first || second) ≡ false → first ≡ false
no_first true second e = cc
no_first false second e = refl

no_second : (first second : Bool) → (first || second) ≡ false → second ≡ false
no_second true second e = cc
no_second false second e = e

names-push : (decls : List Decl) (decl : Decl) → map (λ d. d.name) (decls ++ decl ∷ []) ≡ map (λ d. d.name) decls ++ decl.name ∷ []
names-push [] decl = refl
names-push (d ∷ decls) decl = ap (λ ns. d.name ∷ ns) (names-push decls decl)

names-length : (decls : List Decl) → length (map (λ d. d.name) decls) ≡ length decls
names-length [] = refl
names-length (d ∷ decls) = ap suc (names-length decls)

pub decls_kept : (f g : List ℕ → Option ℕ) (p q : Listing) (decl : Decl) (word : List ℕ) (at : ℕ) → ((name : List ℕ) → f name ≡ find_decl name p) → ((name : List ℕ) → g name ≡ update bytes_eq f word (Some at) name) → decl.name ≡ word → at ≡ length p.decls → is_taken p decl.name ≡ false → q ≡ with_decl p decl → (name : List ℕ) → g name ≡ find_decl name q
decls_kept f g p q decl word at old new named last free grown name =
    new name ∙ (rw (old name, ← named, last, grown, names-push, ← names-length p.decls) (find_name-push (map (λ d. d.name) p.decls) decl.name name (absent_decl decl.name p.decls (no_first _ _ free))))

pub monitors_kept : (f g : List ℕ → Option ℕ) (p q : Listing) (word : List ℕ) (at : ℕ) → ((name : List ℕ) → f name ≡ find_monitor name p) → ((name : List ℕ) → g name ≡ update bytes_eq f word (Some at) name) → at ≡ length p.monitors → is_taken p word ≡ false → q ≡ with_monitor p word → (name : List ℕ) → g name ≡ find_monitor name q
monitors_kept f g p q word at old new last free grown name =
    new name ∙ (rw (old name, last, grown) (find_name-push p.monitors word name (absent_monitor word p.monitors (no_second _ _ free))))

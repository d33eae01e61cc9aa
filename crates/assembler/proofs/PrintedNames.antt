-- Names of which no two are alike: each is found at its position, and none is taken before its own line.
use Rattle.std.proofs.Common.{◌≡◌, ℕ, ◌<◌, ◌||◌, zero, suc, false, List, [], ◌∷◌, ◌++◌, map, length, get_or, Some, refl, ap, add-one, arith}
use Rattle.std.proofs.lemmas.Bool.{or_from}
use Rattle.std.specs.List.{IsDistinct, AllByRecursion, list_any}
use Rattle.std.specs.Str.{bytes_eq}
use Rattle.stride_isa.specs.declared.decl.Decl.{Decl}
use Rattle.assembler.specs.Programs.{find_name}
use Rattle.assembler.proofs.PrintedNumbers.{bytes_eq-same}

-- what holds of two lists in a row holds of the element between them
between : {X : Type 0} (P : X → Type 0) (xs ys : List X) (y : X) → AllByRecursion P (xs ++ y ∷ ys) → P y
between P [] ys y all = all.0
between P (x ∷ xs) ys y all = between P xs ys y all.1

-- what holds of two lists in a row holds of the first
first_all : {X : Type 0} (P : X → Type 0) (xs ys : List X) → AllByRecursion P (xs ++ ys) → AllByRecursion P xs
first_all P [] ys all = tt
first_all P (x ∷ xs) ys all = (all.0, first_all P xs ys all.1)

-- what holds of each element of a list holds at each position
at_all : (P : List ℕ → Type 0) (xs : List (List ℕ)) (at : ℕ) → at < length xs → AllByRecursion P xs → P (get_or xs at [])
at_all P [] at inside all = absurd (omega arith)
at_all P (x ∷ xs) zero inside all = all.0
at_all P (x ∷ xs) (suc at) inside all = at_all P xs at (omega arith) all.1

-- where no two names of two lists in a row are alike, no two of the first are
pub distinct-first : (xs ys : List (List ℕ)) → IsDistinct bytes_eq (xs ++ ys) → IsDistinct bytes_eq xs
unfolding IsDistinct
distinct-first [] ys distinct = tt
distinct-first (x ∷ xs) ys distinct = (first_all (λ y. bytes_eq x y ≡ false) xs ys distinct.0, distinct-first xs ys distinct.1)

-- and no two of the second
pub distinct-second : (xs ys : List (List ℕ)) → IsDistinct bytes_eq (xs ++ ys) → IsDistinct bytes_eq ys
unfolding IsDistinct
distinct-second [] ys distinct = distinct
distinct-second (x ∷ xs) ys distinct = distinct-second xs ys distinct.1

-- a name that stands at a position is found there
pub find_name-at : (names : List (List ℕ)) (at : ℕ) → at < length names → IsDistinct bytes_eq names → find_name (get_or names at []) names ≡ Some at
unfolding IsDistinct
find_name-at [] at inside distinct = absurd (omega arith)
find_name-at (name ∷ names) zero inside distinct = let same = bytes_eq-same name in rw same refl
find_name-at (name ∷ names) (suc at) inside distinct =
    let other = at_all (λ y. bytes_eq name y ≡ false) names at (omega arith) distinct.0 in
    let found = find_name-at names at (omega arith) distinct.1 in
    rw (other, found) (ap (λ k. Some k) (add-one at))

-- no name before another is like it
pub none_before : (before behind : List (List ℕ)) (name : List ℕ) → IsDistinct bytes_eq (before ++ name ∷ behind) → list_any (λ other. bytes_eq other name) before ≡ false
unfolding IsDistinct
none_before [] behind name distinct = refl
none_before (other ∷ before) behind name distinct =
    or_from (bytes_eq other name) (list_any (λ o. bytes_eq o name) before) (between (λ y. bytes_eq other y ≡ false) before behind name distinct.0) (none_before before behind name distinct.1)

-- whether a declaration has a name is whether the name is among theirs
pub any_name-decls : (name : List ℕ) (decls : List Decl) → list_any (λ d. bytes_eq d.name name) decls ≡ list_any (λ other. bytes_eq other name) (map (λ d. d.name) decls)
any_name-decls name [] = refl
any_name-decls name (d ∷ decls) = ap (λ more. bytes_eq d.name name || more) (any_name-decls name decls)

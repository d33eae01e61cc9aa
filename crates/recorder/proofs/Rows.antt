-- Rows of items: what holds of each, and items that are counted from a number on.
use Rattle.std.proofs.Common.{◌≡◌, ℕ, zero, suc, ◌+◌, ◌<◌, List, [], ◌∷◌, ◌++◌, Some, length, map, take, get_or, refl, sym, ap, ◌∙◌, arith}
use Rattle.std.specs.List.{AllByRecursion, range_with_len, slice_get}
use Rattle.std.proofs.lemmas.List.{take_all, take_more}
use Rattle.std.proofs.lemmas.Option.{same_Some}
use Rattle.stride_isa.specs.Laws.{EachCellStarts}
use Rattle.stride_isa.specs.Listing.{cell_count, starts_of}
use Rattle.stride_isa.specs.declared.decl.Decl.{Decl}

-- what holds of each item holds of each with one more at the end
pub each_more : {X : Type 0} (P : X → Type 0) (xs : List X) (x : X) → AllByRecursion P xs → P x → AllByRecursion P (xs ++ x ∷ [])
each_more P [] x h p = (p, tt)
each_more P (y ∷ xs) x h p = (h.0, each_more P xs x h.1 p)

-- what holds of each of two rows together holds of each of the first
pub each_front : {X : Type 0} (P : X → Type 0) (xs ys : List X) → AllByRecursion P (xs ++ ys) → AllByRecursion P xs
each_front P [] ys h = tt
each_front P (x ∷ xs) ys h = (h.0, each_front P xs ys h.1)

-- and of each of the second
pub each_back : {X : Type 0} (P : X → Type 0) (xs ys : List X) → AllByRecursion P (xs ++ ys) → AllByRecursion P ys
each_back P [] ys h = h
each_back P (x ∷ xs) ys h = each_back P xs ys h.1

-- items that are known by their places
pub by_places : {X : Type 0} (f : ℕ → X) (xs : List X) (from : ℕ) → ((k : ℕ) → k < length xs → slice_get xs k ≡ Some (f (from + k))) → xs ≡ map f (range_with_len from (length xs))
by_places f [] from same = refl
by_places f (x ∷ xs) from same =
    let start : from + 0 ≡ from = omega arith in
    let here : x ≡ f from = same_Some x (f (from + 0)) (same 0 (omega arith)) ∙ ap f start in
    ap (λ y. y ∷ xs) here
    ∙ ap (λ ys. f from ∷ ys) (by_places f xs (from + 1) (λ k below. let there : from + suc k ≡ from + 1 + k = omega arith in same (suc k) (omega arith) ∙ ap (λ j. Some (f j)) there))

-- two functions that agree on the numbers of a range
pub in_range : {Y : Type 0} (f h : ℕ → Y) (from n : ℕ) → ((k : ℕ) → k < from + n → f k ≡ h k) → map f (range_with_len from n) ≡ map h (range_with_len from n)
in_range f h from zero same = refl
in_range f h from (suc n) same =
    ap (λ y. y ∷ map f (range_with_len (from + 1) n)) (same from (omega arith))
    ∙ ap (λ ys. h from ∷ ys) (in_range f h (from + 1) n (λ k below. same k (omega arith)))

-- the starting values so far, and one more
pub starts_more : EachCellStarts → (decls : List Decl) (starts : List ℕ) (cell : ℕ) (value : ℕ) → cell < cell_count decls → starts ≡ take cell (starts_of decls) → value ≡ get_or (starts_of decls) cell 0 → starts ++ value ∷ [] ≡ take (cell + 1) (starts_of decls)
starts_more law decls starts cell value below so_far is =
    let inside : cell < length (starts_of decls) = omega (arith, law decls) in
    rw (so_far, is) (sym (take_more (starts_of decls) cell 0 inside))

pub starts_all : EachCellStarts → (decls : List Decl) (count : ℕ) → count ≡ cell_count decls → take count (starts_of decls) ≡ starts_of decls
starts_all law decls count is = take_all count (starts_of decls) (omega (arith, law decls))

-- Lists of events and of starting values.
use Rattle.std.proofs.Common.{◌≡◌, ℕ, ◌+◌, ◌<◌, zero, suc, List, [], ◌∷◌, ◌++◌, length, get_or, set, take, replicate, sym, subst, arith}
use Rattle.std.specs.List.{AllByRecursion}
use Rattle.std.proofs.lemmas.List.{replicate-append-replicate, take_more, take_all}
use Rattle.stride_isa.specs.Listing.{cell_count, starts_of}
use Rattle.stride_isa.specs.Laws.{EachCellStarts}
use Rattle.stride_isa.specs.declared.decl.Decl.{Decl}

-- one more of a row of equal items
pub replicate_more : {X : Type 0} (n : ℕ) (x : X) → replicate n x ++ x ∷ [] ≡ replicate (n + 1) x
replicate_more n x = replicate-append-replicate n 1 x

-- the starting values so far, and one more
pub starts_more : EachCellStarts → (decls : List Decl) (starts : List ℕ) (cell : ℕ) (value : ℕ) → cell < cell_count decls → starts ≡ take cell (starts_of decls) → value ≡ get_or (starts_of decls) cell 0 → starts ++ value ∷ [] ≡ take (cell + 1) (starts_of decls)
starts_more law decls starts cell value below so_far is =
    let inside : cell < length (starts_of decls) = omega (arith, law decls) in
    rw (so_far, is) (sym (take_more (starts_of decls) cell 0 inside))

pub starts_all : EachCellStarts → (decls : List Decl) (count : ℕ) → count ≡ cell_count decls → take count (starts_of decls) ≡ starts_of decls
starts_all law decls count is = take_all count (starts_of decls) (omega (arith, law decls))

-- what holds of each item holds of the one at an index
pub each_at : {X : Type 0} (P : X → Type 0) (xs : List X) (i : ℕ) (d : X) → i < length xs → AllByRecursion P xs → P (get_or xs i d)
each_at P [] i d below h = absurd (omega arith)
each_at P (x ∷ xs) zero d below h = h.0
each_at P (x ∷ xs) (suc i) d below h = each_at P xs i d (omega arith) h.1

-- and of each in which one was replaced by another of which it holds
pub each_set : {X : Type 0} (P : X → Type 0) (xs : List X) (i : ℕ) (x : X) → AllByRecursion P xs → P x → AllByRecursion P (set xs i x)
each_set P [] i x h p = tt
each_set P (y ∷ xs) zero x h p = (p, h.1)
each_set P (y ∷ xs) (suc i) x h p = (h.0, each_set P xs i x h.1 p)

-- and of equal ones
pub each_equal : {X : Type 0} (P : X → Type 0) (n : ℕ) (x : X) → P x → AllByRecursion P (replicate n x)
each_equal P zero x p = tt
each_equal P (suc n) x p = (p, each_equal P n x p)

-- and of each with one more at the end
pub each_more : {X : Type 0} (P : X → Type 0) (xs : List X) (x : X) → AllByRecursion P xs → P x → AllByRecursion P (xs ++ x ∷ [])
each_more P [] x h p = (p, tt)
each_more P (y ∷ xs) x h p = (h.0, each_more P xs x h.1 p)

-- what holds of each item holds of the one that is read in place
pub each_read : {X : Type 0} (P : X → Type 0) (xs : List X) (i : ℕ) (x : X) → i < length xs → x ≡ get_or xs i x → AllByRecursion P xs → P x
each_read P xs i x below is all = subst P (sym is) (each_at P xs i x below all)

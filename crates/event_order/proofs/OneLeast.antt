-- There is one least schedule at most.
use Rattle.std.proofs.Common.{◌≡◌, ℕ, List, [], ◌∷◌, refl, sym, ap₂, subst, inl, inr, arith}
use Rattle.interleavings.specs.TraceLists.{TraceLists}
use Rattle.event_order.specs.DirectOrder.{LinkRows}
use Rattle.event_order.specs.Least.{IsLeast, NotBehind}

-- of two lists that are not behind each other there is one
not_behind_both : (xs ys : List ℕ) → NotBehind xs ys → NotBehind ys xs → xs ≡ ys
not_behind_both [] [] first second = refl
not_behind_both [] (y ∷ ys) first second = absurd second
not_behind_both (x ∷ xs) [] first second = absurd first
not_behind_both (x ∷ xs) (y ∷ ys) (inl less) (inl more) = absurd (omega arith)
not_behind_both (x ∷ xs) (y ∷ ys) (inl less) (inr same) = absurd (let equal = same.0 in omega arith)
not_behind_both (x ∷ xs) (y ∷ ys) (inr same) (inl less) = absurd (let equal = same.0 in omega arith)
not_behind_both (x ∷ xs) (y ∷ ys) (inr first) (inr second) = ap₂ (λ z zs. z ∷ zs) first.0 (not_behind_both xs ys first.1 second.1)

-- there is one least schedule at most
pub one_least : (traces : TraceLists) (links : LinkRows) (one other : List ℕ) → IsLeast traces links one → IsLeast traces links other → one ≡ other
one_least traces links one other first second =
    not_behind_both one other
    (subst (NotBehind one) (sym second.of_places) (first.least second.places second.extends))
    (subst (NotBehind other) (sym first.of_places) (second.least first.places first.extends))

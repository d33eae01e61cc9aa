-- Lists of numbers in a row, one longer.
use Rattle.std.proofs.Common.{◌≡◌, ℕ, zero, suc, ◌+◌, ◌*◌, ◌<◌, List, [], ◌∷◌, ◌++◌, length, map, replicate, refl, ap, ◌∙◌, arith, add-zero, add-one, append_assoc, length-append}
use Rattle.std.proofs.lemmas.Grind.{replicate_next}
use Rattle.std.proofs.lemmas.List.{append-nil}
use Rattle.std.proofs.lemmas.List.Elements.{All-append, All-from_get_or, All-nil}
use Rattle.std.proofs.lemmas.List.Folds.{concat-append}
use Rattle.std.proofs.lemmas.List.FromFn.{get_or-range_with_len, length-range_with_len}
use Rattle.std.proofs.lemmas.List.Sums.{sum_by-append}
use Rattle.std.specs.List.{All, concat, range_with_len, sum_by}

pub range_more : (a n j : ℕ) → a + n ≡ j → range_with_len a (n + 1) ≡ range_with_len a n ++ j ∷ []
range_more a zero j e = let same : a ≡ j = omega arith in ap (λ first. first ∷ []) same
range_more a (suc n) j e =
    let longer = rw (add-one n) at (range_more (a + 1) n j (omega arith)) in
    rw (add-one (suc n)) (ap (λ rest. a ∷ rest) longer)

pub sum_by-range_more : (f : ℕ → ℕ) (n : ℕ) → sum_by f (range_with_len 0 (n + 1)) ≡ sum_by f (range_with_len 0 n) + f n
sum_by-range_more f n =
    omega (arith, ap (sum_by f) (range_more 0 n n (omega arith)) ∙ sum_by-append f (range_with_len 0 n) (n ∷ []))

pub concat-more : (times : ℕ) (xs : List ℕ) → concat (replicate (times + 1) xs) ≡ concat (replicate times xs) ++ xs
concat-more times xs =
    ap concat (replicate_next times xs) ∙ (concat-append (replicate times xs) (xs ∷ []) ∙ ap (λ rest. concat (replicate times xs) ++ rest) (append-nil xs))

pub length-concat-replicate : (times : ℕ) (xs : List ℕ) → length (concat (replicate times xs)) ≡ times * length xs
length-concat-replicate zero xs = omega arith
length-concat-replicate (suc times) xs = grind (arith, length-append, length-concat-replicate times xs)

pub All-range : (n : ℕ) → All (λ x. x < n) (range_with_len 0 n)
All-range n = All-from_get_or (λ x. x < n) (range_with_len 0 n) 0 (λ i lt. let below : i < n = omega (arith, length-range_with_len 0 n) in rw (get_or-range_with_len 0 n i 0 below) (omega arith))

pub All-concat-replicate : (P : ℕ → Type 0) (times : ℕ) (xs : List ℕ) → All P xs → All P (concat (replicate times xs))
All-concat-replicate P zero xs each = All-nil P
All-concat-replicate P (suc times) xs each = All-append P xs (concat (replicate times xs)) each (All-concat-replicate P times xs each)

pub ruleset one_more = (range_more, concat-more, append_assoc)

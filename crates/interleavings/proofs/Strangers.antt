-- The members of an order that name no thread.
use Rattle.std.proofs.Common.{◌≡◌, ℕ, zero, suc, ◌+◌, ◌<◌, ◌≤◌, ◌∙◌, true, false, if◌then◌else◌, nat_le, List, [], ◌∷◌, ◌++◌, length, get_or, Bool, refl, ap, arith, add-one, Option, Some, None}
use Rattle.std.specs.Option.{option_map}
use Rattle.std.proofs.lemmas.Bool.Decides.{nat_tests}
use Rattle.interleavings.specs.Driving.{stranger}

le_true : (a b : ℕ) → a ≤ b → nat_le a b ≡ true
le_true a b le = grind (arith, nat_tests)

le_false : (a b : ℕ) → b < a → nat_le a b ≡ false
le_false a b lt = grind (arith, nat_tests)

-- no member but the one at i is a stranger
pub stranger_at : (threads : ℕ) (order : List ℕ) (i : ℕ) → i < length order → ((k : ℕ) → k < i → get_or order k 0 < threads) → threads ≤ get_or order i 0 → stranger threads order ≡ Some i
unfolding stranger
stranger_at threads [] i inside known at = absurd (omega arith)
stranger_at threads (t ∷ ts) zero inside known at = ap (λ b. if b then Some 0 else option_map (λ place. place + 1) (stranger threads ts)) (le_true threads t at)
stranger_at threads (t ∷ ts) (suc i) inside known at =
    ap (λ b. if b then Some 0 else option_map (λ place. place + 1) (stranger threads ts)) (le_false threads t (known 0 (omega arith)))
    ∙ ap (option_map (λ place. place + 1)) (stranger_at threads ts i (omega arith) (λ k lt. known (suc k) (omega arith)) at)
    ∙ ap Some (add-one i)

pub no_stranger : (threads : ℕ) (order : List ℕ) → ((k : ℕ) → k < length order → get_or order k 0 < threads) → stranger threads order ≡ None
unfolding stranger
no_stranger threads [] known = refl
no_stranger threads (t ∷ ts) known =
    ap (λ b. if b then Some 0 else option_map (λ place. place + 1) (stranger threads ts)) (le_false threads t (known 0 (omega arith)))
    ∙ ap (option_map (λ place. place + 1)) (no_stranger threads ts (λ k lt. known (suc k) (omega arith)))

none_after : (o : Option ℕ) → option_map (λ place. place + 1) o ≡ None → o ≡ None
none_after None e = refl
none_after (Some place) e = cc

first_known : (threads t : ℕ) → nat_le threads t ≡ false → t < threads
first_known threads t e = grind (arith, nat_tests)

-- where the first is no stranger and there is none after it
pub known_first : (b : Bool) (threads t : ℕ) (found : Option ℕ) → nat_le threads t ≡ b → (if b then Some 0 else option_map (λ place. place + 1) found) ≡ None → (t < threads) × (found ≡ None)
known_first true threads t found e none = cc
known_first false threads t found e none = (first_known threads t e, none_after found none)

pub all_known : (threads : ℕ) (order : List ℕ) → stranger threads order ≡ None → (k : ℕ) → k < length order → get_or order k 0 < threads
unfolding stranger
all_known threads [] none k lt = absurd (omega arith)
all_known threads (t ∷ ts) none zero lt = (known_first (nat_le threads t) threads t (stranger threads ts) refl none).0
all_known threads (t ∷ ts) none (suc k) lt = all_known threads ts (known_first (nat_le threads t) threads t (stranger threads ts) refl none).1 k (omega arith)

-- one member more that is known
pub stranger_more : (threads : ℕ) (order : List ℕ) (t : ℕ) → stranger threads order ≡ None → t < threads → stranger threads (order ++ t ∷ []) ≡ None
unfolding stranger
stranger_more threads [] t none below = ap (λ b. if b then Some 0 else option_map (λ place. place + 1) None) (le_false threads t below)
stranger_more threads (x ∷ order) t none below =
    let first = known_first (nat_le threads x) threads x (stranger threads order) refl none in
    ap (λ b. if b then Some 0 else option_map (λ place. place + 1) (stranger threads (order ++ t ∷ []))) (le_false threads x first.0)
    ∙ ap (option_map (λ place. place + 1)) (stranger_more threads order t first.1 below)

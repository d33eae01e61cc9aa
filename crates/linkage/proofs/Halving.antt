-- Halving a sorted list of triples.
use Rattle.std.proofs.Common.{◌≡◌, ◌∙◌, ℕ, add-one, ◌+◌, ◌-◌, ◌*◌, ◌^◌, ◌<◌, ◌≤◌, ◌⊎◌, inl, inr, List, length, get_or, refl, sym, subst, arith}
use Rattle.std.specs.Prelude.{Option, Some, None, Contains, slice_get}
use Rattle.std.proofs.Math.Nat.{eq-or-lt_of_le, pow-suc, mul-le-mul_left}
use Rattle.std.proofs.lemmas.Bool.{cases_lt}
use Rattle.std.proofs.lemmas.List.{get_or_default}
use Rattle.std.proofs.lemmas.Option.{get_or_from_slice_get}
use Rattle.stride_base.specs.Ascending.{Triple, Before, IsAscending}
use Rattle.linkage.specs.Answers.{IsLatest}
use Rattle.linkage.specs.Looking.{IsUpTo, IsHit, IsHitBefore, IsSplit, IsHalved}

-- one more look, after which at most half is left
pub halved_step : (count rest left looks : ℕ) → 1 ≤ rest → 2 * left ≤ rest → IsHalved count rest looks → IsHalved count left (looks + 1)
halved_step count rest left looks some half h =
    let doubled : 2 ^ (looks + 1) ≡ 2 ^ looks * 2 = rw add-one (pow-suc 2 looks) in
    let whole : 2 ^ looks * (2 * left) ≤ 2 ^ looks * rest = mul-le-mul_left (2 ^ looks) half in
    let one : 2 ^ looks * 1 ≤ 2 ^ looks * rest = mul-le-mul_left (2 ^ looks) some in
    record { halved = rw doubled (omega (arith, whole, h.halved)); few = rw doubled (omega (arith, one, h.halved)) }

-- what stands before a triple that is up to another is up to it too
up_to_before : (a b : Triple) (cell value bound : ℕ) → Before a b → IsUpTo b cell value bound → IsUpTo a cell value bound
up_to_before (x, y, z) (u, v, w) cell value bound less up = grind arith

-- a triple between one and the bound on its number has the same cell and value
squeezed : (a : Triple) (cell value number bound : ℕ) → Before (cell, value, number) a → IsUpTo a cell value bound → (a.0 ≡ cell) × (a.1 ≡ value) × (number ≤ a.2)
squeezed (x, y, z) cell value number bound less up = (grind arith, grind arith, grind arith)

whole : (a : Triple) (cell value number : ℕ) → (a.0 ≡ cell) × (a.1 ≡ value) × (a.2 ≡ number) → a ≡ (cell, value, number)
whole (x, y, z) cell value number (first, second, third) = cc

bounded : (cell value number bound : ℕ) → IsUpTo (cell, value, number) cell value bound → number ≤ bound
bounded cell value number bound up = grind arith

no_place : (low : ℕ) → low ≡ 0 → 1 ≤ low → ⊥
no_place low none some = omega arith

module _ (index : List Triple) (low high cell value bound : ℕ) (found : Option ℕ) (ascending : IsAscending index) (split : IsSplit index low high cell value bound found) where
  -- what was looked at is up to the triple, and so is all before it
  pub split_low : (middle : ℕ) (member : Triple) (hit : Option ℕ) → low ≤ middle → middle < high → slice_get index middle ≡ Some member → IsUpTo member cell value bound → IsHit member cell value hit → IsSplit index (middle + 1) high cell value bound hit
  split_low middle member hit from to there up is =
      let at : (d : Triple) → get_or index middle d ≡ member = λ d. get_or_from_slice_get index middle member d there in
      record {
        ordered = omega arith;
        inside = split.inside;
        before = λ i d below.
            let P : Triple → Type 0 = λ t. IsUpTo t cell value bound in
            elim (eq-or-lt_of_le {n = i} {m = middle} (omega arith)) [
              | inl same ↦ rw same (subst P (sym (at d)) up)
              | inr less ↦ up_to_before (get_or index i d) (get_or index middle d) cell value bound (ascending i middle d less (omega (arith, split.inside))) (subst P (sym (at d)) up)
            ];
        after = split.after;
        hit = inr (omega arith, λ d. let P : Triple → Type 0 = λ t. IsHit t cell value hit in let one : (middle + 1) - 1 ≡ middle = omega arith in rw one (subst P (sym (at d)) is));
      }

  -- what was looked at is not up to the triple, and so is nothing behind it
  pub split_high : (middle : ℕ) (member : Triple) → low ≤ middle → middle < high → slice_get index middle ≡ Some member → (IsUpTo member cell value bound → ⊥) → IsSplit index low middle cell value bound found
  split_high middle member from to there over =
      let at : (d : Triple) → get_or index middle d ≡ member = λ d. get_or_from_slice_get index middle member d there in
      record {
        ordered = from;
        inside = omega (arith, split.inside);
        before = split.before;
        after = λ i d above inside up.
            let P : Triple → Type 0 = λ t. IsUpTo t cell value bound in
            elim (eq-or-lt_of_le {n = middle} {m = i} above) [
              | inl same ↦ over (subst P (at d) (rw (← same) at up))
              | inr less ↦ over (subst P (at d) (up_to_before (get_or index middle d) (get_or index i d) cell value bound (ascending middle i d less inside) up))
            ];
        hit = split.hit;
      }

  -- a listed triple within the bound stands before the split
  listed_before : high ≤ low → (number : ℕ) → number ≤ bound → (k : ℕ) → k < length index → get_or index k (cell, value, number) ≡ (cell, value, number) → k < low
  listed_before met number within k inside there =
      elim (cases_lt k low) [
        | inl below ↦ below
        | inr above ↦ absurd (split.after k (cell, value, number) (omega arith) inside (rw there (inr (refl, inr (refl, within)))))
      ]

  -- and so the last triple before the split, if one is listed, is of this cell and value, with at least this number
  last_hit : high ≤ low → (number : ℕ) → number ≤ bound → Contains index (cell, value, number) → (1 ≤ low) × ((d : Triple) → (get_or index (low - 1) d).0 ≡ cell) × ((d : Triple) → (get_or index (low - 1) d).1 ≡ value) × ((d : Triple) → number ≤ (get_or index (low - 1) d).2)
  last_hit met number within (k, inside, there) =
      let t : Triple = (cell, value, number) in
      let below : k < low = listed_before met number within k inside there in
      let here : (d : Triple) → get_or index k d ≡ t = λ d. get_or_default index k d t inside ∙ there in
      let last : (d : Triple) → (k ≡ low - 1) ⊎ Before t (get_or index (low - 1) d) = λ d.
      elim (eq-or-lt_of_le {n = k} {m = low - 1} (omega arith)) [
        | inl same ↦ inl same
        | inr less ↦ inr (let P : Triple → Type 0 = λ a. Before a (get_or index (low - 1) d) in subst P (here d) (ascending k (low - 1) d less (omega (arith, split.inside))))
      ] in
      let up : (d : Triple) → IsUpTo (get_or index (low - 1) d) cell value bound = λ d. split.before (low - 1) d (omega arith) in
      let fits : (d : Triple) → ((get_or index (low - 1) d).0 ≡ cell) × ((get_or index (low - 1) d).1 ≡ value) × (number ≤ (get_or index (low - 1) d).2) = λ d.
      elim (last d) [
        | inl same ↦ (let P : Triple → Type 0 = λ a. (a.0 ≡ cell) × (a.1 ≡ value) × (number ≤ a.2) in rw (← same) (subst P (sym (here d)) (refl, refl, omega arith)))
        | inr less ↦ squeezed (get_or index (low - 1) d) cell value number bound less (up d)
      ] in
      (omega arith, λ d. (fits d).0, λ d. (fits d).1, λ d. (fits d).2)

  -- where nothing is left, the last hit is the answer
  met_answer : high ≤ low → (tells : Option ℕ) → IsHitBefore index low cell value tells → IsLatest index cell value bound tells
  met_answer met None hit = λ number within listed.
      let last = last_hit met number within listed in
      let d : Triple = (cell, value, number) in
      elim hit [
        | inl none ↦ absurd (no_place low none.0 last.0)
        | inr some ↦ some.1 d (last.1 d) (last.2 d)
      ]
  met_answer met (Some number) hit =
      elim hit [
        | inl none ↦ absurd (cc (none.1))
        | inr some ↦ (
            let d : Triple = (cell, value, number) in
            let inside : low - 1 < length index = omega (arith, split.inside, split.ordered) in
            let one : get_or index (low - 1) d ≡ d = whole (get_or index (low - 1) d) cell value number (some.1 d) in
            let P : Triple → Type 0 = λ t. IsUpTo t cell value bound in
            record {
              within = bounded cell value number bound (subst P one (split.before (low - 1) d (omega arith)));
              listed = (low - 1, inside, one);
              greatest = λ other below listed. let last = last_hit met other below listed in omega (arith, last.3 d, (some.1 d).2);
            })
      ]

  pub split_met : high ≤ low → IsLatest index cell value bound found
  split_met met = met_answer met found split.hit

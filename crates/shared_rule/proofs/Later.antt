-- A later state in which one thread at most did something: what every other pass knows still fits.
use Rattle.std.proofs.Common.{◌≡◌, ◌≢◌, ℕ, ◌/◌, ◌≤◌, ◌∙◌, List, [], ◌∷◌, Option, Some, None, ap, arith}
use Rattle.std.proofs.lemmas.List.Sums.{sum_by-cons}
use Rattle.interleavings.specs.declared.activity.Activity.{Activity}
use Rattle.interleavings.specs.declared.activity.Tally.{Tally}
use Rattle.interleavings.specs.AtomicStep.{Drawn, Number}
use Rattle.interleavings.specs.History.{Person, State}
use Rattle.shared_rule.specs.declared.view.View.{View}
use Rattle.shared_rule.specs.Holding.{weight_of, gathered_weight, IsOwn, IsGatheredAs, AreGathered, Fits}
use Rattle.shared_rule.proofs.Weights.{counts_name, other_name, IsWithout}

-- no thread but this one did anything, and no count and no number fell
pub record Later (st now : State) (n : ℕ) : Type 0 where
  pub others : (t : ℕ) → t ≢ n → now.people t ≡ st.people t
  pub drawn : st.words Drawn ≤ now.words Drawn
  pub numbers : (cell : ℕ) → st.words (Number cell) / 2 ≤ now.words (Number cell) / 2

module _ (st now : State) (n : ℕ) (later : Later st now n) where
  still_own : (name : Option ℕ) (activity : Activity) (tally : Tally) → weight_of (counts_name n) name ≡ 0 → IsOwn st name activity tally → IsOwn now name activity tally
  still_own None activity tally none own = own
  still_own (Some m) activity tally none own =
      let same = later.others m (other_name n m none) in
      let drawn = later.drawn in
      let less = own.0 in
      (omega arith, ap (λ (p : Person). p.activity) same ∙ own.1, ap (λ (p : Person). p.tally) same ∙ own.2)

  still_one : (name : Option ℕ) (activity : Activity) → weight_of (counts_name n) name ≡ 0 → IsGatheredAs st name activity → IsGatheredAs now name activity
  still_one None activity none is = is
  still_one (Some m) activity none is =
      let drawn = later.drawn in
      let less = is.0 in
      (omega arith, ap (λ (p : Person). p.activity) (later.others m (other_name n m none)) ∙ is.1, is.2)

  pub still_gathered : (gathered : List Activity) → gathered_weight (counts_name n) gathered ≡ 0 → AreGathered st gathered → AreGathered now gathered
  still_gathered [] none are = are
  still_gathered (g ∷ gathered) none are =
      let split = sum_by-cons (λ (a : Activity). weight_of (counts_name n) a.name) g gathered in
      (still_one g.name g (omega arith) are.0, still_gathered gathered (omega arith) are.1)

  pub still_fits : (starts : List ℕ) (v : View) → IsWithout n v → Fits starts st v → Fits starts now v
  still_fits starts v without fits = record {
    starting = fits.starting;
    own = still_own v.activity.name v.activity v.tally without.own fits.own;
    rest = still_gathered v.gathered without.rest fits.rest;
    seen = λ cell. (let up = later.numbers cell in let below = fits.seen cell in omega arith);
  }

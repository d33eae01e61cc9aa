-- The rule holds at the start, and after a pass is split or takes another in.
use Rattle.std.proofs.Common.{◌≡◌, ◌≢◌, ◌⊎◌, ℕ, zero, suc, ◌+◌, ◌/◌, ◌==◌, ◌≤◌, ◌∙◌, if◌then◌else◌, List, [], ◌∷◌, ◌++◌, length, max, Option, Some, None, refl, sym, ap, subst, inl, inr, arith, set}
use Rattle.std.proofs.lemmas.List.FromFn.{get_or-map-range_with_len, length-map-range_with_len}
use Rattle.std.proofs.lemmas.List.Sums.{sum_by-cons, sum_by-append}
use mathlib.Core.Option.{some, some-injective, some-ne-none}
use lib.ListN.{get_elem?}
use Rattle.atomic_table.specs.Table as table
use Rattle.atomic_table.proofs.Lists.{at_set, at_snoc}
use Rattle.interleavings.specs.declared.activity.Activity.{Activity}
use Rattle.interleavings.specs.declared.activity.SeenNumber.{SeenNumber}
use Rattle.interleavings.specs.declared.activity.Tally.{Tally}
use Rattle.interleavings.specs.AtomicStep.{Number, IsIdle}
use Rattle.interleavings.specs.History.{State, after, IsHistory, start_words, greatest_seen}
use Rattle.shared_rule.specs.declared.view.View.{View}
use Rattle.shared_rule.specs.Holding.{view_weight, weight_of, gathered_weight, IsOwn, IsGatheredAs, AreGathered, Fits, Holds}
use Rattle.shared_rule.specs.Lines.{index_of, width, word_at, opening_words}
use Rattle.shared_rule.specs.Views.{first_view, spent_view, halved, split_off, brought, taken_in}
use Rattle.shared_rule.proofs.Placed.{decoded, index_inside}
use Rattle.shared_rule.proofs.Weights.{sum_set}

first_fits : (starts : List ℕ) (id : ℕ) (v : View) → get_elem? (first_view starts ∷ []) id ≡ some v → Fits starts (after starts []) v
unfolding after
first_fits starts zero v at = subst (Fits starts (after starts [])) (some-injective (first_view starts) v at) (record {
  starting = λ live. refl;
  own = (refl, refl);
  rest = tt;
  seen = λ cell. omega arith;
})
first_fits starts (suc id) v at = absurd (some-ne-none v (sym at))

pub opens : (starts : List ℕ) → Holds starts (table.opening (opening_words starts) [] (first_view starts))
unfolding after IsHistory
opens starts = record {
  steps = [];
  lawful = tt;
  words = λ word within. get_or-map-range_with_len (λ index. start_words starts (word_at index)) 0 (width (length starts)) (index_of word) (index_of word) 0 (index_inside (length starts) word within) (omega arith)
      ∙ ap (start_words starts) (decoded (length starts) word within);
  wide = length-map-range_with_len (λ index. start_words starts (word_at index)) 0 (width (length starts));
  named = λ x among. absurd among;
  once = λ weigh. omega (arith, sum_by-cons (view_weight weigh) (first_view starts) []);
  draws = omega (arith, sum_by-cons (λ (v : View). v.draws) (first_view starts) []);
  few = λ t. omega arith;
  each = first_fits starts;
}

module _ (starts : List ℕ) (s : table.State (Unit {0}) View) (holds : Holds starts s) (id : ℕ) (v : View) (there : get_elem? s.views id ≡ some v) where
  abbrev st : State
  st = after starts holds.steps

  half_fits : Fits starts st (halved v)
  half_fits = let old = holds.each id v there in record { starting = old.starting; own = old.own; rest = old.rest; seen = old.seen }

  split_fits : Fits starts st (split_off v)
  split_fits = let old = holds.each id v there in record { starting = old.starting; own = (refl, refl); rest = tt; seen = old.seen }

  kept_fits : (other : ℕ) (w : View) → (other ≡ id) × (halved v ≡ w) ⊎ (other ≢ id) × (get_elem? s.views other ≡ some w) → Fits starts st w
  kept_fits other w (inl same) = subst (Fits starts st) same.1 half_fits
  kept_fits other w (inr differs) = holds.each other w differs.1

  parts_fit : (other : ℕ) (w : View) → (get_elem? (set s.views id (halved v)) other ≡ some w) ⊎ (split_off v ≡ w) → Fits starts st w
  parts_fit other w (inl at) = kept_fits other w (at_set s.views id other (halved v) w at)
  parts_fit other w (inr new) = subst (Fits starts st) new split_fits

  pub splits : Holds starts (record { words = s.words; homes = s.homes; views = set s.views id (halved v) ++ split_off v ∷ [] })
  splits = record {
    steps = holds.steps;
    lawful = holds.lawful;
    words = holds.words;
    wide = holds.wide;
    named = holds.named;
    once = λ weigh. (
        let change = sum_set (view_weight weigh) s.views id v (halved v) there in
        let old = holds.once weigh in
        omega (arith, sum_by-append (view_weight weigh) (set s.views id (halved v)) (split_off v ∷ []), sum_by-cons (view_weight weigh) (split_off v) []));
    draws = (
        let change = sum_set (λ (w : View). w.draws) s.views id v (halved v) there in
        let old = holds.draws in
        omega (arith, sum_by-append (λ (w : View). w.draws) (set s.views id (halved v)) (split_off v ∷ []), sum_by-cons (λ (w : View). w.draws) (split_off v) []));
    few = holds.few;
    each = λ other w at. parts_fit other w (at_snoc (set s.views id (halved v)) (split_off v) w other at);
  }

brought_weight : (weigh : ℕ → ℕ) (name : Option ℕ) (activity : Activity) → activity.name ≡ name → gathered_weight weigh (brought name activity) ≡ weight_of weigh name
brought_weight weigh None activity is = refl
brought_weight weigh (Some n) activity is = omega (arith, sum_by-cons (λ (g : Activity). weight_of weigh g.name) activity [], ap (weight_of weigh) is)

brought_gathered : (now : State) (name : Option ℕ) (activity : Activity) (tally : Tally) → activity.name ≡ name → IsIdle activity.phase → IsOwn now name activity tally → AreGathered now (brought name activity)
brought_gathered now None activity tally is idle own = tt
brought_gathered now (Some n) activity tally is idle own = (subst (λ name. IsGatheredAs now name activity) (sym is) (own.0, own.1, idle), tt)

both_gathered : (now : State) (gathered more : List Activity) → AreGathered now gathered → AreGathered now more → AreGathered now (gathered ++ more)
both_gathered now [] more are all = all
both_gathered now (g ∷ gathered) more are all = (are.0, both_gathered now gathered more are.1 all)

both_seen : (cell most : ℕ) (seen more : List SeenNumber) → greatest_seen cell seen ≤ most → greatest_seen cell more ≤ most → greatest_seen cell (seen ++ more) ≤ most
both_seen cell most [] more le all = all
both_seen cell most (x ∷ seen) more le all =
    let n : ℕ = if x.cell == cell then x.number else 0 in
    let old : max n (greatest_seen cell seen) ≤ most = le in
    let rest = both_seen cell most seen more (omega arith) all in
    omega arith

module _ (starts : List ℕ) (s : table.State (Unit {0}) View) (holds : Holds starts s) (id other : ℕ) (v w : View) (there : get_elem? s.views id ≡ some v) (apart : other ≢ id) (at_other : get_elem? (set s.views id (taken_in v w)) other ≡ some w) (idle : IsIdle w.activity.phase) where
  abbrev st2 : State
  st2 = after starts holds.steps

  before : (other ≡ id) × (taken_in v w ≡ w) ⊎ (other ≢ id) × (get_elem? s.views other ≡ some w) → get_elem? s.views other ≡ some w
  before (inl same) = absurd (apart same.0)
  before (inr differs) = differs.1

  both_fits : Fits starts st2 (taken_in v w)
  both_fits =
      let old = holds.each id v there in
      let new = holds.each other w (before (at_set s.views id other (taken_in v w) w at_other)) in
      record {
        starting = old.starting;
        own = old.own;
        rest = both_gathered st2 (v.gathered ++ brought w.activity.name w.activity) w.gathered (both_gathered st2 v.gathered (brought w.activity.name w.activity) old.rest (brought_gathered st2 w.activity.name w.activity w.tally refl idle new.own)) new.rest;
        seen = λ cell. both_seen cell (st2.words (Number cell) / 2) w.seen v.seen (new.seen cell) (old.seen cell);
      }

  spent_fits : Fits starts st2 spent_view
  spent_fits = record { starting = λ live. grind arith; own = (refl, refl); rest = tt; seen = λ cell. omega arith }

  taken_fits : (one : ℕ) (u : View) → (one ≡ id) × (taken_in v w ≡ u) ⊎ (one ≢ id) × (get_elem? s.views one ≡ some u) → Fits starts st2 u
  taken_fits one u (inl same) = subst (Fits starts st2) same.1 both_fits
  taken_fits one u (inr differs) = holds.each one u differs.1

  joined_fits : (one : ℕ) (u : View) → (one ≡ other) × (spent_view ≡ u) ⊎ (one ≢ other) × (get_elem? (set s.views id (taken_in v w)) one ≡ some u) → Fits starts st2 u
  joined_fits one u (inl same) = subst (Fits starts st2) same.1 spent_fits
  joined_fits one u (inr differs) = taken_fits one u (at_set s.views id one (taken_in v w) u differs.1)

  both_weigh : (weigh : ℕ → ℕ) → view_weight weigh (taken_in v w) ≡ view_weight weigh v + view_weight weigh w
  both_weigh weigh =
      let f : Activity → ℕ = λ g. weight_of weigh g.name in
      omega (arith, sum_by-append f (v.gathered ++ brought w.activity.name w.activity) w.gathered, sum_by-append f v.gathered (brought w.activity.name w.activity), brought_weight weigh w.activity.name w.activity refl)

  pub joins : Holds starts (record { words = s.words; homes = s.homes; views = set (set s.views id (taken_in v w)) other spent_view })
  joins = record {
    steps = holds.steps;
    lawful = holds.lawful;
    words = holds.words;
    wide = holds.wide;
    named = holds.named;
    once = λ weigh. (
        let one = sum_set (view_weight weigh) s.views id v (taken_in v w) there in
        let two = sum_set (view_weight weigh) (set s.views id (taken_in v w)) other w spent_view at_other in
        let both = both_weigh weigh in
        let old = holds.once weigh in
        omega arith);
    draws = (
        let one = sum_set (λ (u : View). u.draws) s.views id v (taken_in v w) there in
        let two = sum_set (λ (u : View). u.draws) (set s.views id (taken_in v w)) other w spent_view at_other in
        let old = holds.draws in
        omega arith);
    few = holds.few;
    each = λ one u at. joined_fits one u (at_set (set s.views id (taken_in v w)) other one spent_view u at);
  }

pub opening_length : (starts : List ℕ) → length (opening_words starts) ≡ width (length starts)
opening_length starts = length-map-range_with_len (λ index. start_words starts (word_at index)) 0 (width (length starts))

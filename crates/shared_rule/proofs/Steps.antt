-- A pass with a name makes any step but a draw, and the rule holds after it.
use Rattle.std.proofs.Common.{◌≡◌, ◌≢◌, ◌⊎◌, ℕ, ◌+◌, ◌<◌, ◌≤◌, ◌∙◌, if◌then◌else◌, List, [], ◌∷◌, length, sum_by, Some, refl, sym, ap, subst, inl, inr, arith, get_or, set}
use Rattle.std.proofs.lemmas.Bool.{eq-eqb, ne_eqb, cases_eq}
use Rattle.std.proofs.lemmas.List.{length-set}
use mathlib.Core.Option.{some}
use lib.ListN.{get_elem?}
use Rattle.atomic_table.specs.Table as table
use Rattle.atomic_table.proofs.Lists.{at_set}
use Rattle.interleavings.specs.declared.activity.Activity.{Activity}
use Rattle.interleavings.specs.declared.activity.Tally.{Tally}
use Rattle.interleavings.specs.declared.kind.Kind.{Kind}
use Rattle.interleavings.specs.AtomicStep.{SharedWord, Drawn, Number, word_of, word_after, May, activity_after, tally_after}
use Rattle.interleavings.specs.History.{Person, State, Step, put_word, put_person, person_after, happens, after, IsHistory}
use Rattle.interleavings.specs.Recording.{Among}
use Rattle.shared_rule.specs.declared.limits.TheConstants.{EVENT_LIMIT}
use Rattle.shared_rule.specs.declared.view.View.{View}
use Rattle.shared_rule.specs.Accesses.{HasRoom}
use Rattle.shared_rule.specs.Facts.{HistoriesKeep}
use Rattle.shared_rule.specs.Holding.{view_weight, weight_of, weight_below, gathered_weight, begun_events, IsOwn, Fits, Holds}
use Rattle.shared_rule.specs.Lines.{index_of, IsThere}
use Rattle.shared_rule.specs.Views.{view_after}
use Rattle.shared_rule.proofs.Placed.{same_word_self, words_put}
use Rattle.shared_rule.proofs.Weights.{sum_set, counts_name, alone, own_alone}
use Rattle.shared_rule.proofs.KindRows.{IsNoDraw, name_stays, draws_stay, drawn_stays, few_begun, seen_kept}
use Rattle.shared_rule.proofs.Later.{Later, still_gathered, still_fits}

-- the state of a thread that was put, and of another
pub person_here : (people : ℕ → Person) (who : ℕ) (person : Person) → put_person people who person who ≡ person
person_here people who person = ap (λ b. if b then person else people who) (eq-eqb who who refl)

pub person_else : (people : ℕ → Person) (who : ℕ) (person : Person) (t : ℕ) → t ≢ who → put_person people who person t ≡ people t
person_else people who person t apart = ap (λ b. if b then person else people t) (ne_eqb t who apart)

-- a word that was put
pub word_here : (words : SharedWord → ℕ) (word : SharedWord) (value : ℕ) → put_word words word value word ≡ value
word_here words word value = ap (λ b. if b then value else words word) (same_word_self word)

module _ (starts : List ℕ) (s : table.State (Unit {0}) View) (holds : Holds starts s) (facts : HistoriesKeep) (id n : ℕ) (v : View) (there : get_elem? s.views id ≡ some v) (named : v.activity.name ≡ Some n) where
  abbrev st : State
  st = after starts holds.steps

  pub own : IsOwn st (Some n) v.activity v.tally
  own = subst (λ name. IsOwn st name v.activity v.tally) named (holds.each id v there).own

  module _ (kind : Kind) (at value : ℕ) (apart : IsNoDraw kind at) (inside : IsThere (length starts) (word_of kind at)) (may : May kind at v.activity) (room : HasRoom kind v.activity.events) (met : ℕ) (met_is : met ≡ get_or s.words (index_of (word_of kind at)) 0) where
    abbrev step : Step
    step = record { who = n; kind = kind; at = at; value = value }

    abbrev now : State
    now = happens step st

    abbrev view : View
    view = view_after kind at value v met

    met_there : st.words (word_of kind at) ≡ met
    met_there = sym (holds.words (word_of kind at) inside) ∙ sym met_is

    activity_is : (now.people n).activity ≡ activity_after kind at value v.activity met
    activity_is =
        ap (λ (p : Person). p.activity) (person_here st.people n (person_after step (st.people n) (st.words (word_of kind at))))
        ∙ ap (λ (a : Activity). activity_after kind at value a (st.words (word_of kind at))) own.1
        ∙ ap (λ m. activity_after kind at value v.activity m) met_there

    tally_is : (now.people n).tally ≡ tally_after kind at v.tally met
    tally_is =
        ap (λ (p : Person). p.tally) (person_here st.people n (person_after step (st.people n) (st.words (word_of kind at))))
        ∙ ap (λ (a : Tally). tally_after kind at a (st.words (word_of kind at))) own.2
        ∙ ap (λ m. tally_after kind at v.tally m) met_there

    value_is : word_after kind at value (st.people n).activity (st.words (word_of kind at)) ≡ word_after kind at value v.activity met
    value_is = ap (λ (a : Activity). word_after kind at value a (st.words (word_of kind at))) own.1 ∙ ap (λ m. word_after kind at value v.activity m) met_there

    word_is : now.words (word_of kind at) ≡ word_after kind at value v.activity met
    word_is = word_here st.words (word_of kind at) (word_after kind at value (st.people n).activity (st.words (word_of kind at))) ∙ value_is

    drawn_is : now.words Drawn ≡ st.words Drawn
    drawn_is = drawn_stays kind at apart st.words (word_after kind at value (st.people n).activity (st.words (word_of kind at)))

    lawful : IsHistory starts (step ∷ holds.steps)
    unfolding IsHistory
    lawful = (subst (λ (a : Activity). May kind at a) (sym own.1) may, holds.lawful)

    grown : (cell : ℕ) → st.words (Number cell) ≤ now.words (Number cell)
    unfolding after
    grown cell = (facts.grown starts (step ∷ []) holds.steps lawful).numbers cell

    later : Later st now n
    later = record {
      others = λ t differs. person_else st.people n (person_after step (st.people n) (st.words (word_of kind at))) t differs;
      drawn = omega (arith, drawn_is);
      numbers = λ cell. (let up = grown cell in omega arith);
    }

    name_is : view.activity.name ≡ Some n
    name_is = name_stays kind at apart v.activity.name met ∙ named

    fits : Fits starts now view
    fits =
        let old = holds.each id v there in
        let less = own.0 in
        record {
          starting = old.starting;
          own = subst (λ name. IsOwn now name view.activity view.tally) (sym name_is) (omega (arith, drawn_is), activity_is, tally_is);
          rest = still_gathered st now n later v.gathered (own_alone s.views id n (st.words Drawn) v (holds.once (counts_name n)) there named) old.rest;
          seen = seen_kept kind at value v.activity v.seen met now.words word_is (λ cell. (let up = grown cell in let below = old.seen cell in omega arith));
        }

    others_fit : (other : ℕ) (w : View) → (other ≡ id) × (view ≡ w) ⊎ (other ≢ id) × (get_elem? s.views other ≡ some w) → Fits starts now w
    others_fit other w (inl same) = subst (Fits starts now) same.1 fits
    others_fit other w (inr differs) = still_fits st now n later starts w (alone s.views id n (st.words Drawn) v (holds.once (counts_name n)) there named other w differs.0 differs.1) (holds.each other w differs.1)

    few : (t : ℕ) → t ≡ n ⊎ t ≢ n → begun_events (now.people t).activity ≤ EVENT_LIMIT
    few t (inl same) = subst (λ u. begun_events (now.people u).activity ≤ EVENT_LIMIT) (sym same)
        (subst (λ (a : Activity). begun_events a ≤ EVENT_LIMIT) (sym activity_is)
        (few_begun kind at value v.activity met may room (subst (λ (a : Activity). begun_events a ≤ EVENT_LIMIT) own.1 (holds.few n))))
    few t (inr differs) = subst (λ (p : Person). begun_events p.activity ≤ EVENT_LIMIT) (sym (later.others t differs)) (holds.few t)

    named_still : (x : Step) → (x ≡ step) ⊎ Among x holds.steps → x.who < now.words Drawn
    named_still x (inl same) = (let who : x.who ≡ n = ap (λ (y : Step). y.who) same in let less = own.0 in omega (arith, drawn_is))
    named_still x (inr among) = (let less = holds.named x among in omega (arith, drawn_is))

    weighs_still : (weigh : ℕ → ℕ) → view_weight weigh view ≡ view_weight weigh v
    weighs_still weigh = ap (λ name. weight_of weigh name + gathered_weight weigh v.gathered) (name_stays kind at apart v.activity.name met)

    pub kept : Holds starts (record { words = set s.words (index_of (word_of kind at)) (word_after kind at value v.activity met); homes = s.homes; views = set s.views id view })
    unfolding after IsHistory
    kept = record {
      steps = step ∷ holds.steps;
      lawful = lawful;
      words = λ word within. words_put (length starts) s.words st.words (word_of kind at) (word_after kind at value v.activity met) holds.wide inside holds.words word within
          ∙ ap (λ x. put_word st.words (word_of kind at) x word) (sym value_is);
      wide = length-set s.words (index_of (word_of kind at)) (word_after kind at value v.activity met) ∙ holds.wide;
      named = named_still;
      once = λ weigh. (
          let change = sum_set (view_weight weigh) s.views id v view there in
          let same = weighs_still weigh in
          let old = holds.once weigh in
          let sums : sum_by (view_weight weigh) (set s.views id view) ≡ sum_by (view_weight weigh) s.views = omega arith in
          sums ∙ old ∙ ap (weight_below weigh) (sym drawn_is));
      draws = (
          let change = sum_set (λ (w : View). w.draws) s.views id v view there in
          let same = draws_stay kind at apart v.draws in
          let old = holds.draws in
          omega (arith, drawn_is));
      few = λ t. few t (cases_eq t n);
      each = λ other w at_other. others_fit other w (at_set s.views id other view w at_other);
    }

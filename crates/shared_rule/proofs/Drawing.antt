-- A pass without a name draws one, and the rule holds after it.
use Rattle.std.proofs.Common.{◌≡◌, ◌≢◌, ◌⊎◌, ℕ, suc, ◌+◌, ◌%◌, ◌^◌, ◌<◌, ◌≤◌, ◌∙◌, List, ◌∷◌, length, sum_by, None, refl, sym, ap, subst, inl, inr, arith, get_or, set}
use Rattle.std.proofs.lemmas.Bool.{cases_eq}
use Rattle.std.proofs.lemmas.List.{length-set}
use mathlib.Core.Option.{some}
use lib.ListN.{get_elem?}
use Rattle.atomic_table.specs.Table as table
use Rattle.atomic_table.proofs.Lists.{at_set}
use Rattle.interleavings.specs.declared.activity.Activity.{Activity}
use Rattle.interleavings.specs.declared.activity.Tally.{Tally}
use Rattle.interleavings.specs.declared.kind.Kind.TheVariants as by
use Rattle.interleavings.specs.AtomicStep.{Drawn, May, activity_after, tally_after}
use Rattle.interleavings.specs.History.{Person, State, Step, put_word, person_after, happens, after, IsHistory, newcomer}
use Rattle.interleavings.specs.Recording.{Among}
use Rattle.shared_rule.specs.declared.limits.TheConstants.{DRAW_LIMIT, EVENT_LIMIT}
use Rattle.shared_rule.specs.declared.view.View.{View}
use Rattle.shared_rule.specs.Facts.{HistoriesKeep}
use Rattle.shared_rule.specs.Holding.{view_weight, weight_of, weight_below, gathered_weight, begun_events, IsOwn, Fits, Holds}
use Rattle.shared_rule.specs.Views.{view_after}
use Rattle.shared_rule.proofs.Placed.{words_put}
use Rattle.shared_rule.proofs.Weights.{sum_set, sum_one, counts_name, undrawn}
use Rattle.shared_rule.proofs.Later.{Later, still_gathered, still_fits}
use Rattle.shared_rule.proofs.Steps.{person_here, person_else}

module _ (starts : List ℕ) (s : table.State (Unit {0}) View) (holds : Holds starts s) (facts : HistoriesKeep) (id : ℕ) (v : View) (there : get_elem? s.views id ≡ some v) (nameless : v.activity.name ≡ None) (some_draw : 1 ≤ v.draws) (met : ℕ) (met_is : met ≡ get_or s.words 0 0) where
  abbrev st : State
  st = after starts holds.steps

  met_there : st.words Drawn ≡ met
  met_there = sym (holds.words Drawn tt) ∙ sym met_is

  own : IsOwn st None v.activity v.tally
  own = subst (λ name. IsOwn st name v.activity v.tally) nameless (holds.each id v there).own

  abbrev step : Step
  step = record { who = met; kind = by.Draw; at = 0; value = 0 }

  abbrev now : State
  now = happens step st

  abbrev view : View
  view = view_after by.Draw 0 0 v met

  new_is : st.people met ≡ newcomer
  new_is = facts.strangers starts holds.steps met (λ x among e. (let less = holds.named x among in absurd (omega (arith, met_there))))

  lawful : IsHistory starts (step ∷ holds.steps)
  unfolding IsHistory
  lawful = (subst (λ (p : Person). May by.Draw 0 p.activity) (sym new_is) (record { begins = tt; suits = refl }), holds.lawful)

  activity_is : (now.people met).activity ≡ view.activity
  activity_is =
      ap (λ (p : Person). p.activity) (person_here st.people met (person_after step (st.people met) (st.words Drawn)))
      ∙ ap (λ (p : Person). activity_after by.Draw 0 0 p.activity (st.words Drawn)) new_is
      ∙ ap (λ m. activity_after by.Draw 0 0 newcomer.activity m) met_there
      ∙ ap (λ (a : Activity). activity_after by.Draw 0 0 a met) (sym own.0)

  tally_is : (now.people met).tally ≡ view.tally
  tally_is =
      ap (λ (p : Person). p.tally) (person_here st.people met (person_after step (st.people met) (st.words Drawn)))
      ∙ ap (λ (p : Person). tally_after by.Draw 0 p.tally (st.words Drawn)) new_is
      ∙ ap (λ m. tally_after by.Draw 0 newcomer.tally m) met_there
      ∙ ap (λ (a : Tally). tally_after by.Draw 0 a met) (sym own.1)

  later : Later st now met
  later = record {
    others = λ t differs. person_else st.people met (person_after step (st.people met) (st.words Drawn)) t differs;
    drawn = omega arith;
    numbers = λ cell. omega arith;
  }

  once_then : sum_by (view_weight (counts_name met)) s.views ≡ weight_below (counts_name met) met
  once_then = holds.once (counts_name met) ∙ ap (weight_below (counts_name met)) met_there

  fits : Fits starts now view
  fits =
      let old = holds.each id v there in
      record {
        starting = old.starting;
        own = (omega (arith, met_there), activity_is, tally_is);
        rest = still_gathered st now met later v.gathered (undrawn s.views id met v once_then there).rest old.rest;
        seen = old.seen;
      }

  others_fit : (other : ℕ) (w : View) → (other ≡ id) × (view ≡ w) ⊎ (other ≢ id) × (get_elem? s.views other ≡ some w) → Fits starts now w
  others_fit other w (inl same) = subst (Fits starts now) same.1 fits
  others_fit other w (inr differs) = still_fits st now met later starts w (undrawn s.views other met w once_then differs.1) (holds.each other w differs.1)

  few : (t : ℕ) → t ≡ met ⊎ t ≢ met → begun_events (now.people t).activity ≤ EVENT_LIMIT
  few t (inl same) = subst (λ u. begun_events (now.people u).activity ≤ EVENT_LIMIT) (sym same)
      (subst (λ (a : Activity). begun_events a ≤ EVENT_LIMIT) (sym (activity_is ∙ ap (λ (a : Activity). activity_after by.Draw 0 0 a met) own.0)) (omega arith))
  few t (inr differs) = subst (λ (p : Person). begun_events p.activity ≤ EVENT_LIMIT) (sym (later.others t differs)) (holds.few t)

  named_still : (x : Step) → (x ≡ step) ⊎ Among x holds.steps → x.who < now.words Drawn
  named_still x (inl same) = (let who : x.who ≡ met = ap (λ (y : Step). y.who) same in omega (arith, met_there))
  named_still x (inr among) = (let less = holds.named x among in omega arith)

  pub few_drawn : met < DRAW_LIMIT
  few_drawn =
      let one = sum_one (λ (w : View). w.draws) s.views id v there in
      let old = holds.draws in
      omega (arith, met_there)

  weighs_more : (weigh : ℕ → ℕ) → view_weight weigh view ≡ view_weight weigh v + weigh met
  weighs_more weigh =
      let old : view_weight weigh v ≡ gathered_weight weigh v.gathered = ap (λ name. weight_of weigh name + gathered_weight weigh v.gathered) nameless ∙ omega arith in
      omega arith

  pub drawn : Holds starts (record { words = set s.words 0 ((met + 1) % 2 ^ 64); homes = s.homes; views = set s.views id view })
  unfolding after IsHistory
  drawn = record {
    steps = step ∷ holds.steps;
    lawful = lawful;
    words = λ word within. words_put (length starts) s.words st.words Drawn ((met + 1) % 2 ^ 64) holds.wide tt holds.words word within
        ∙ ap (λ x. put_word st.words Drawn x word) (let few_names = few_drawn in omega (arith, met_there));
    wide = length-set s.words 0 ((met + 1) % 2 ^ 64) ∙ holds.wide;
    named = named_still;
    once = λ weigh. (
        let change = sum_set (view_weight weigh) s.views id v view there in
        let more = weighs_more weigh in
        let old = holds.once weigh ∙ ap (weight_below weigh) met_there in
        let sums : sum_by (view_weight weigh) (set s.views id view) ≡ weight_below weigh (suc met) = omega arith in
        let next : suc met ≡ st.words Drawn + 1 = omega (arith, met_there) in
        sums ∙ ap (weight_below weigh) next);
    draws = (
        let change = sum_set (λ (w : View). w.draws) s.views id v view there in
        let old = holds.draws in
        omega arith);
    few = λ t. few t (cases_eq t met);
    each = λ other w at_other. others_fit other w (at_set s.views id other view w at_other);
  }

-- A step of the core is a step of the state that it shows.
use Rattle.std.proofs.Common.{◌≡◌, ℕ, ◌<◌, ◌∙◌, if◌then◌else◌, length, inl, inr, sym, ap, arith, get_or, set}
use Rattle.std.specs.Vec.{with_item}
use Rattle.std.proofs.lemmas.Bool.Decides.{eqb_tells}
use Rattle.std.proofs.lemmas.List.{get_or-set_same, get_or-set_other, get_or_default, length-set}
use Rattle.interleavings.specs.declared.activity.Activity.{Activity}
use Rattle.interleavings.specs.declared.core_state.Core.{Core}
use Rattle.interleavings.specs.declared.step_words.AtomicStep.{AtomicStep}
use Rattle.interleavings.specs.AtomicStep.{SharedWord, word_of, word_after, activity_after}
use Rattle.interleavings.specs.CoreShows.{ShowsState, HasWholeRow, step_seen}
use Rattle.interleavings.specs.History.{State, put_word, person_after, happens}
use Rattle.interleavings.specs.Layout.{index_of, IsInRow}
use Rattle.interleavings.proofs.Row.{row_put, index_inside}

module _ (core : Core) (step : AtomicStep) (place met word : ℕ) (old new : Activity) (st : State) where
  abbrev touched : SharedWord
  touched = word_of step.kind step.at

  abbrev after : Core
  after = record { layout = core.layout; words = with_item core.words place word; people = with_item core.people step.who new }

  pub happened : HasWholeRow core → step.who < length core.people.items → IsInRow core.layout.cells core.layout.monitors touched → place ≡ index_of core.layout.cells touched → met ≡ get_or core.words.items place met → old ≡ get_or core.people.items step.who old → word ≡ word_after step.kind step.at step.value old met → ShowsState core st → new ≡ activity_after step.kind step.at step.value old met → ShowsState after (happens (step_seen step) st)
  happened whole who inside place_is met_is old_is word_is shows new_is =
      let met_shown : met ≡ st.words touched = met_is ∙ get_or_default core.words.items place met 0 (in_row whole inside place_is) ∙ ap (λ i. get_or core.words.items i 0) place_is ∙ shows.words touched inside in
      let old_shown : old ≡ (st.people step.who).activity = old_is ∙ shows.people step.who old who in
      let word_shown : word ≡ word_after step.kind step.at step.value (st.people step.who).activity (st.words touched) =
      word_is ∙ ap (λ a. word_after step.kind step.at step.value a met) old_shown ∙ ap (λ m. word_after step.kind step.at step.value (st.people step.who).activity m) met_shown in
      let new_shown : new ≡ activity_after step.kind step.at step.value (st.people step.who).activity (st.words touched) =
      new_is ∙ ap (λ a. activity_after step.kind step.at step.value a met) old_shown ∙ ap (λ m. activity_after step.kind step.at step.value (st.people step.who).activity m) met_shown in
      record {
        words = λ other within.
            ap (λ i. get_or (set core.words.items i word) (index_of core.layout.cells other) 0) place_is
            ∙ row_put core.layout.cells core.layout.monitors core.words.items st.words touched word whole inside shows.words other within
            ∙ ap (λ w. put_word st.words touched w other) word_shown;
        people = λ other d below. elim (eqb_tells other step.who) [
          | inl same ↦
              ap (λ k. get_or (set core.people.items step.who new) k d) same.1
              ∙ get_or-set_same core.people.items step.who new d who
              ∙ new_shown
              ∙ ap (λ b. (if b then person_after (step_seen step) (st.people step.who) (st.words touched) else st.people other).activity) (sym same.0)
          | inr differs ↦
              get_or-set_other core.people.items step.who other new d differs.1
              ∙ shows.people other d (still_below other below)
              ∙ ap (λ b. (if b then person_after (step_seen step) (st.people step.who) (st.words touched) else st.people other).activity) (sym differs.0)
        ];
      }
    where
      in_row : HasWholeRow core → IsInRow core.layout.cells core.layout.monitors touched → place ≡ index_of core.layout.cells touched → place < length core.words.items
      in_row whole inside e = omega (arith, whole, index_inside core.layout.cells core.layout.monitors touched inside)

      still_below : (k : ℕ) → k < length (set core.people.items step.who new) → k < length core.people.items
      still_below k lt = omega (arith, length-set core.people.items step.who new)

-- The names are the numbers below the count of names.
use Rattle.std.proofs.Common.{◌≡◌, ◌≢◌, ◌⊎◌, ℕ, ◌+◌, ◌==◌, false, [], ◌∷◌, Option, Some, None, is_some, refl, sym, ◌∙◌, ap, inl, inr, arith}
use Rattle.std.proofs.lemmas.Bool.{true≢false, cases_eq, cond-true, cond-false, eq-eqb, ne_eqb}
use Rattle.std.proofs.lemmas.Option.{none-some, same_Some}
use Rattle.interleavings.specs.declared.activity.Activity.{Activity}
use Rattle.interleavings.specs.declared.kind.Kind.{Kind}
use Rattle.interleavings.specs.declared.kind.Kind.TheVariants as by
use Rattle.interleavings.specs.AtomicStep.{SharedWord, Drawn, word_of, Suits, word_after, name_after}
use Rattle.interleavings.specs.History.{Person, State, Step, put_word, person_after, happens, after, IsHistory}
use Rattle.histories.specs.Facts.{AreNames}
use Rattle.histories.specs.Laws.{NamesAreDrawn}

-- a step draws the next name for a thread without one, or leaves the names as they are
abbrev Draws : ℕ → ℕ → Option ℕ → Option ℕ → Type 0
Draws drawn drawn' name name' = ((drawn' ≡ drawn) × (name' ≡ name)) ⊎ ((drawn' ≡ drawn + 1) × (name' ≡ Some drawn) × (name ≡ None))

nameless : (name : Option ℕ) → is_some name ≡ false → name ≡ None
nameless None e = refl
nameless (Some x) e = absurd (true≢false e)

draws : (words : SharedWord → ℕ) (kind : Kind) (at value : ℕ) (activity : Activity) → Suits kind at activity → Draws (words Drawn) (put_word words (word_of kind at) (word_after kind at value activity (words (word_of kind at))) Drawn) activity.name (name_after kind activity.name (words (word_of kind at)))
draws words by.Draw at value activity suits = inr (refl, refl, nameless activity.name suits)
draws words kind at value activity suits = inl (refl, refl)

module _ (s : Step) (st : State) (are : AreNames st) where
  abbrev name : ℕ → Option ℕ
  name t = (st.people t).activity.name

  abbrev name' : ℕ → Option ℕ
  name' t = ((happens s st).people t).activity.name

  abbrev own : Option ℕ
  own = name_after s.kind (name s.who) (st.words (word_of s.kind s.at))

  abbrev person : Person
  person = person_after s (st.people s.who) (st.words (word_of s.kind s.at))

  here : name' s.who ≡ own
  here = ap (λ (p : Person). p.activity.name) (cond-true (s.who == s.who) person (st.people s.who) (eq-eqb s.who s.who refl))

  elsewhere : (t : ℕ) → t ≢ s.who → name' t ≡ name t
  elsewhere t differs = ap (λ (p : Person). p.activity.name) (cond-false (t == s.who) person (st.people t) (ne_eqb t s.who differs))

  -- as they were
  same_names : (happens s st).words Drawn ≡ st.words Drawn → own ≡ name s.who → AreNames (happens s st)
  same_names drawn is = record {
    below = λ t n e. (let old = are.below t n (sym (same t) ∙ e) in omega (arith, drawn));
    one = λ t u n e f. are.one t u n (sym (same t) ∙ e) (sym (same u) ∙ f);
    there = λ n less. (let old = are.there n (omega (arith, drawn)) in (old.0, same old.0 ∙ old.1));
  }
    where
      same : (t : ℕ) → name' t ≡ name t
      same t = elim (cases_eq t s.who) [ inl e ↦ ap name' e ∙ here ∙ is ∙ ap name (sym e) | inr differs ↦ elsewhere t differs ]

  -- one more
  more_names : (happens s st).words Drawn ≡ st.words Drawn + 1 → own ≡ Some (st.words Drawn) → name s.who ≡ None → AreNames (happens s st)
  more_names drawn is none = record {
    below = λ t n e. elim (cases_eq t s.who) [
      | inl same ↦ (let new : n ≡ st.words Drawn = newest t n same e in omega (arith, drawn))
      | inr differs ↦ (let old = are.below t n (sym (elsewhere t differs) ∙ e) in omega (arith, drawn))
    ];
    one = λ t u n e f. elim (cases_eq t s.who) [
      | inl same ↦ elim (cases_eq u s.who) [
        | inl also ↦ same ∙ sym also
        | inr differs ↦ (let new : n ≡ st.words Drawn = newest t n same e in let old = are.below u n (sym (elsewhere u differs) ∙ f) in absurd (omega arith))
      ]
      | inr differs ↦ elim (cases_eq u s.who) [
        | inl also ↦ (let new : n ≡ st.words Drawn = newest u n also f in let old = are.below t n (sym (elsewhere t differs) ∙ e) in absurd (omega arith))
        | inr other ↦ are.one t u n (sym (elsewhere t differs) ∙ e) (sym (elsewhere u other) ∙ f)
      ]
    ];
    there = λ n less. elim (cases_eq n (st.words Drawn)) [
      | inl same ↦ (s.who, here ∙ is ∙ ap Some (sym same))
      | inr differs ↦
          let old = are.there n (omega (arith, drawn)) in
          (old.0, elsewhere old.0 (λ e. none-some n (sym none ∙ ap name (sym e) ∙ old.1)) ∙ old.1)
    ];
  }
    where
      newest : (t n : ℕ) → t ≡ s.who → name' t ≡ Some n → n ≡ st.words Drawn
      newest t n e f = same_Some n (st.words Drawn) (sym f ∙ ap name' e ∙ here ∙ is)

  names_after : Draws (st.words Drawn) ((happens s st).words Drawn) (name s.who) own → AreNames (happens s st)
  names_after (inl same) = same_names same.0 same.1
  names_after (inr more) = more_names more.0 more.1 more.2

pub names-drawn : NamesAreDrawn
unfolding after IsHistory
names-drawn starts [] lawful = record { below = λ t n e. absurd (none-some n e); one = λ t u n e f. absurd (none-some n e); there = λ n less. absurd (omega arith) }
names-drawn starts (s ∷ steps) lawful =
    let st : State = after starts steps in
    names_after s st (names-drawn starts steps lawful.1) (draws st.words s.kind s.at s.value (st.people s.who).activity lawful.0.suits)

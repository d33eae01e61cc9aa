-- A history whose threads have other numbers is a history.
use Rattle.std.proofs.Common.{◌≡◌, ℕ, ◌==◌, ◌∙◌, if◌then◌else◌, List, [], ◌∷◌, map, refl, sym, ap, subst, inl, inr}
use Rattle.std.proofs.lemmas.Bool.{cases_eq, eq-eqb, ne_eqb}
use Rattle.interleavings.specs.AtomicStep.{SharedWord, word_of, word_after, May}
use Rattle.interleavings.specs.History.{Person, State, Step, same_word, person_after, happens, after, IsHistory}

-- to: the new number of a thread; from: the old number of it
module _ (starts : List ℕ) (to from : ℕ → ℕ) (to-from : (t : ℕ) → to (from t) ≡ t) (from-to : (t : ℕ) → from (to t) ≡ t) where
  abbrev pub relabelled : Step → Step
  relabelled s = record { who = to s.who; kind = s.kind; at = s.at; value = s.value }

  -- the same words, and each thread under its new number
  pub record Same (st st' : State) : Type 0 where
    pub words : (word : SharedWord) → st'.words word ≡ st.words word
    pub people : (t : ℕ) → st'.people t ≡ st.people (from t)

  same_thread : (t who : ℕ) → (t == to who) ≡ (from t == who)
  same_thread t who = elim (cases_eq t (to who)) [
    | inl same ↦ eq-eqb t (to who) same ∙ sym (eq-eqb (from t) who (ap from same ∙ from-to who))
    | inr other ↦ ne_eqb t (to who) other ∙ sym (ne_eqb (from t) who (λ e. other (sym (to-from t) ∙ ap to e)))
  ]

  happens_same : (s : Step) (st st' : State) → Same st st' → Same (happens s st) (happens (relabelled s) st')
  happens_same s st st' same =
      let word = word_of s.kind s.at in
      let person : st'.people (to s.who) ≡ st.people s.who = same.people (to s.who) ∙ ap st.people (from-to s.who) in
      let met : st'.words word ≡ st.words word = same.words word in
      record {
        words = λ x.
            ap (λ (p : Person). if same_word x word then word_after s.kind s.at s.value p.activity (st'.words word) else st'.words x) person
            ∙ ap (λ m. if same_word x word then word_after s.kind s.at s.value (st.people s.who).activity m else st'.words x) met
            ∙ ap (λ m. if same_word x word then word_after s.kind s.at s.value (st.people s.who).activity (st.words word) else m) (same.words x);
        people = λ t.
            ap (λ b. if b then person_after s (st'.people (to s.who)) (st'.words word) else st'.people t) (same_thread t s.who)
            ∙ ap (λ (p : Person). if from t == s.who then person_after s p (st'.words word) else st'.people t) person
            ∙ ap (λ m. if from t == s.who then person_after s (st.people s.who) m else st'.people t) met
            ∙ ap (λ (p : Person). if from t == s.who then person_after s (st.people s.who) (st.words word) else p) (same.people t);
      }

  pub after_same : (steps : List Step) → Same (after starts steps) (after starts (map relabelled steps))
  unfolding after
  after_same [] = record { words = λ word. refl; people = λ t. refl }
  after_same (s ∷ steps) = happens_same s (after starts steps) (after starts (map relabelled steps)) (after_same steps)

  pub history_same : (steps : List Step) → IsHistory starts steps → IsHistory starts (map relabelled steps)
  unfolding IsHistory after
  history_same [] lawful = tt
  history_same (s ∷ steps) lawful =
      let same = after_same steps in
      let person : (after starts (map relabelled steps)).people (to s.who) ≡ (after starts steps).people s.who = same.people (to s.who) ∙ ap (after starts steps).people (from-to s.who) in
      (subst (λ (p : Person). May s.kind s.at p.activity) (sym person) lawful.0, history_same steps lawful.1)

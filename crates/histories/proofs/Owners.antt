-- Claims, turns and updates, read off the chronicle.
use Rattle.std.proofs.Common.{◌≡◌, ℕ, zero, suc, ◌+◌, ◌-◌, ◌/◌, ◌==◌, ◌≤◌, false, List, Option, Some, None, refl, sym, ◌∙◌, ap, subst, inl, inr, arith}
use Rattle.std.proofs.lemmas.Bool.{cases_Bool, eqb-true, eq-eqb}
use Rattle.std.proofs.lemmas.Option.{none-some, same_Some}
use Rattle.interleavings.specs.declared.activity.Phase.{Phase}
use Rattle.interleavings.specs.declared.activity.Phase.TheVariants.{Idle, Loaded, Numbered, Marked, Fetched, Stored, Looked}
use Rattle.interleavings.specs.declared.event.Event.TheVariants.{Update}
use Rattle.interleavings.specs.AtomicStep.{Number, is_even}
use Rattle.interleavings.specs.History.{State, after}
use Rattle.interleavings.specs.Recording.{IsAtRest}
use Rattle.histories.specs.Chronicle.{Puts, Chronicle, IsOwned, IsStanding, IsMade, IsChronicleOf, share, claim_of}
use Rattle.histories.specs.Facts.{IsOfOne, WasWritten}
use Rattle.histories.specs.Laws.{OneClaimer, OneHolder, EvenAtRest, UpdatesMeetTheWriteBefore}
use Rattle.histories.proofs.Chronicles.{chronicles}
use Rattle.histories.proofs.NewMarks.{number_tells}
use Rattle.histories.proofs.Ownership.{odd_half, owner_of, alone}

some_not_none : (x : Option ℕ) (n : ℕ) → x ≡ Some n → x ≡ None → ⊥
some_not_none x n e none = none-some n (sym none ∙ e)

owned-of_one : (w owner : ℕ) (has : ℕ → Option ℕ) → IsOwned w owner has → IsOfOne w has
owned-of_one w owner has own = record {
  own = λ t n e.
      let is = owner_of w owner has t own (some_not_none (has t) n e) in
      let half : n ≡ (w + 1) / 2 = same_Some n ((w + 1) / 2) (sym e ∙ is.2) in
      let odd = odd_half w is.0 in
      omega arith;
  one = λ t u n m e f. alone w owner has t u own (some_not_none (has t) n e) (some_not_none (has u) m f);
  there = λ odd. (owner, own owner ∙ ap (λ b. share b (owner == owner) ((w + 1) / 2)) odd ∙ ap (λ b. share false b ((w + 1) / 2)) (eq-eqb owner owner refl));
}

pub one-claimer : OneClaimer
one-claimer starts steps cell lawful = (let c = chronicles starts steps lawful in owned-of_one _ _ _ (c.1.claims cell))

pub one-holder : OneHolder
one-holder starts steps monitor lawful = (let c = chronicles starts steps lawful in owned-of_one _ _ _ (c.1.holds monitor))

-- a thread at rest has claimed nothing
rest_claims : (cell : ℕ) (phase : Phase) → IsAtRest phase → claim_of cell phase ≡ None
rest_claims cell Idle rest = refl
rest_claims cell (Numbered at n) rest = refl
rest_claims cell (Looked monitor turn) rest = refl
rest_claims cell phase rest = absurd rest

pub even-at_rest : EvenAtRest
even-at_rest starts steps lawful rest cell = elim (cases_Bool (is_even ((after starts steps).words (Number cell)))) [
  | inl even ↦ even
  | inr odd ↦
      let claimed = (one-claimer starts steps cell lawful).there odd in
      absurd (some_not_none (claim_of cell ((after starts steps).people claimed.0).activity.phase) _ claimed.1 (rest_claims cell ((after starts steps).people claimed.0).activity.phase (rest claimed.0)))
]

-- no value has a number above the one that is claimed
claim_greatest : (c : Chronicle) (t spot cell k : ℕ) (phase : Phase) → IsStanding c t spot phase → claim_of cell phase ≡ Some k → c.count (Puts cell) ≤ k
claim_greatest c t spot cell k Idle stands e = absurd (none-some k e)
claim_greatest c t spot cell k (Loaded a v) stands e = absurd (none-some k e)
claim_greatest c t spot cell k (Numbered a n) stands e = absurd (none-some k e)
claim_greatest c t spot cell k (Marked a n) stands e = (let is = number_tells (cell == a) (n + 1) k e in omega (arith, ap (λ x. c.count (Puts x)) (eqb-true cell a is.0), stands, is.1))
claim_greatest c t spot cell k (Fetched a n old) stands e = (let is = number_tells (cell == a) (n + 1) k e in omega (arith, ap (λ x. c.count (Puts x)) (eqb-true cell a is.0), stands.0, is.1))
claim_greatest c t spot cell k (Stored a n old v) stands e = (let is = number_tells (cell == a) (n + 1) k e in omega (arith, ap (λ x. c.count (Puts x)) (eqb-true cell a is.0), stands.count, is.1))
claim_greatest c t spot cell k (Looked m turn) stands e = absurd (none-some k e)

module _ (starts : List ℕ) (st : State) (c : Chronicle) (is : IsChronicleOf starts st c) where
  made_before : (cell number : ℕ) → number + 1 ≤ c.count (Puts cell) → IsMade (Puts cell) number (c.mark (Puts cell) number) (st.people (c.mark (Puts cell) number).who).activity → WasWritten starts st cell number (c.mark (Puts cell) number).value
  made_before cell number less (inl event) = inr ((c.mark (Puts cell) number).who, (c.mark (Puts cell) number).spot, event)
  made_before cell number less (inr claim) = (let most = claim_greatest c (c.mark (Puts cell) number).who _ cell number _ (is.stands (c.mark (Puts cell) number).who) claim in absurd (omega arith))

  -- a value that was put before the last one is of a finished write
  written_before : (cell number : ℕ) → number + 1 ≤ c.count (Puts cell) → WasWritten starts st cell number (c.mark (Puts cell) number).value
  written_before cell zero less = inl (refl, sym (is.starting cell))
  written_before cell (suc n) less = made_before cell (suc n) less (is.made (Puts cell) (suc n) (omega arith) (omega arith))

pub update-meets : UpdatesMeetTheWriteBefore
update-meets starts steps t i cell old new number lawful there =
    let c = chronicles starts steps lawful in
    let told = c.1.tells t i (Update cell old new number) there in
    let one : number - 1 + 1 ≡ number = omega (arith, told.0.step.some) in
    (number - 1, one, subst (λ (x : ℕ). WasWritten starts (after starts steps) cell (number - 1) x) (told.1 (number - 1) one) (written_before starts (after starts steps) c.0 c.1 cell (number - 1) (omega (arith, told.0.step.made))))

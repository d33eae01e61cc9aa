-- What a step does to the number of a cell, and to what its thread has claimed of it.
use Rattle.std.proofs.Common.{◌≡◌, ℕ, ◌+◌, ◌*◌, ◌/◌, ◌==◌, Bool, true, false, if◌then◌else◌, Option, Some, None, refl, sym, ◌∙◌, ap, subst, inl, inr, arith}
use Rattle.std.proofs.lemmas.Bool.{cond_both, cond-true, cond-false, eqb-true, eq-eqb, ne_eqb, cases_eq}
use Rattle.std.proofs.lemmas.Option.{none-some, same_Some}
use prog.Atomic.{either}
use Rattle.interleavings.specs.declared.activity.Activity.{Activity}
use Rattle.interleavings.specs.declared.activity.Phase.{Phase}
use Rattle.interleavings.specs.declared.activity.Phase.TheVariants.{Idle, Loaded, Numbered, Marked, Fetched, Stored, Looked}
use Rattle.interleavings.specs.declared.kind.Kind.{Kind}
use Rattle.interleavings.specs.declared.kind.Kind.TheVariants as by
use Rattle.interleavings.specs.AtomicStep.{SharedWord, Number, word_of, Begins, is_even, word_after, phase_if, phase_after}
use Rattle.interleavings.specs.History.{put_word}
use Rattle.histories.specs.Chronicle.{number_if, claim_of, share}
use Rattle.histories.proofs.Ownership.{Moves, odd_half, even_twice}

-- of a cell nothing holds besides
abbrev pub CellMoves : ℕ → ℕ → Option ℕ → Option ℕ → Type 0
CellMoves w w' has has' = Moves (Unit {0}) (Unit {0}) (Unit {0}) w w' has has'

-- a word that is put back as it was met
pub number_back : (words : SharedWord → ℕ) (cell at : ℕ) → put_word words (Number at) (words (Number at)) (Number cell) ≡ words (Number cell)
number_back words cell at = cond_both (cell == at) (words (Number at)) (words (Number cell)) (λ x. x ≡ words (Number cell)) (λ e. ap (λ c. words (Number c)) (sym (eqb-true cell at e))) (λ e. refl)

claim_in : (cell : ℕ) (b : Bool) (phase other : Phase) → claim_of cell phase ≡ None → claim_of cell other ≡ None → claim_of cell (phase_if b phase other) ≡ None
claim_in cell true phase other p q = p
claim_in cell false phase other p q = q

claims_it : (words : SharedWord → ℕ) (cell at a n : ℕ) (met_it : Bool) → (words (Number at) == 2 * n) ≡ met_it → at ≡ a → CellMoves (words (Number cell)) (put_word words (Number at) (either met_it (2 * n + 1) (words (Number at))) (Number cell)) None (claim_of cell (phase_if met_it (Marked a n) Idle))
claims_it words cell at a n false e same = inl (number_back words cell at, refl, tt)
claims_it words cell at a n true e same = elim (cases_eq cell at) [
  | inl here ↦
      let met : words (Number cell) ≡ 2 * n = ap (λ x. words (Number x)) here ∙ eqb-true (words (Number at)) (2 * n) e in
      let half : n + 1 ≡ words (Number cell) / 2 + 1 = omega arith in
      inr (inl (
        even_twice (words (Number cell)) n met,
        cond-true (cell == at) (2 * n + 1) (words (Number cell)) (eq-eqb cell at here) ∙ omega (arith, met),
        ap (λ b. number_if b (n + 1)) (eq-eqb cell a (here ∙ same)) ∙ ap Some half,
        tt,
      ))
  | inr there ↦ inl (cond-false (cell == at) (2 * n + 1) (words (Number cell)) (ne_eqb cell at there), ap (λ b. number_if b (n + 1)) (ne_eqb cell a (λ is. there (is ∙ sym same))), tt)
]

-- a claimed number tells the odd word
pub claimed_odd : (even own : Bool) (w n half : ℕ) → (even ≡ false → w ≡ 2 * (w / 2) + 1) → half ≡ (w + 1) / 2 → is_even w ≡ even → Some (n + 1) ≡ share even own half → 2 * n + 2 ≡ w + 1
claimed_odd true own w n half odd h e is = absurd (none-some (n + 1) (sym is))
claimed_odd false true w n half odd h e is = (let same : n + 1 ≡ half = same_Some (n + 1) half is in let whole = odd refl in omega arith)
claimed_odd false false w n half odd h e is = absurd (none-some (n + 1) (sym is))

completes_it : (b : Bool) (w n : ℕ) (own : Bool) → number_if b (n + 1) ≡ share (is_even w) own ((w + 1) / 2) → CellMoves w (if b then 2 * n + 2 else w) (number_if b (n + 1)) None
completes_it false w n own is = inl (refl, refl, tt)
completes_it true w n own is = inr (inr ((λ e. none-some (n + 1) (sym e)), claimed_odd (is_even w) own w n ((w + 1) / 2) (odd_half w) refl refl is, refl, tt))

-- by the step's kind and the phase
pub cell_moves : (words : SharedWord → ℕ) (cell : ℕ) (own : Bool) (kind : Kind) (at value : ℕ) (activity : Activity) (phase : Phase) → Begins kind at phase → claim_of cell phase ≡ share (is_even (words (Number cell))) own ((words (Number cell) + 1) / 2) → CellMoves (words (Number cell)) (put_word words (word_of kind at) (word_after kind at value (record activity { phase = phase }) (words (word_of kind at))) (Number cell)) (claim_of cell phase) (claim_of cell (phase_after kind at value phase (words (word_of kind at))))
cell_moves words cell own by.ValueLoad at value activity Idle begins is = inl (refl, refl, tt)
cell_moves words cell own by.NumberLoad at value activity (Loaded a v) begins is = inl (number_back words cell at, claim_in cell (is_even (words (Number at))) Idle (Loaded a v) refl refl, tt)
cell_moves words cell own by.SeeNumber at value activity Idle begins is = inl (number_back words cell at, claim_in cell (is_even (words (Number at))) (Numbered at (words (Number at) / 2)) Idle refl refl, tt)
cell_moves words cell own by.Claim at value activity (Numbered a n) begins is = claims_it words cell at a n (words (Number at) == 2 * n) refl begins
cell_moves words cell own by.Fetch at value activity (Marked a n) begins is = inl (refl, refl, tt)
cell_moves words cell own by.Put at value activity (Marked a n) begins is = inl (refl, refl, tt)
cell_moves words cell own by.Put at value activity (Fetched a n old) begins is = inl (refl, refl, tt)
cell_moves words cell own by.Complete at value activity (Stored a n old v) begins is =
    subst (λ (x : ℕ). CellMoves (words (Number cell)) (if cell == x then 2 * n + 2 else words (Number cell)) (number_if (cell == a) (n + 1)) None) (sym begins) (completes_it (cell == a) (words (Number cell)) n own is)
cell_moves words cell own by.Look at value activity Idle begins is = inl (refl, claim_in cell (is_even (words (word_of by.Look at))) (Looked at (words (word_of by.Look at) / 2)) Idle refl refl, tt)
cell_moves words cell own by.Enter at value activity (Looked m turn) begins is = inl (refl, refl, tt)
cell_moves words cell own by.Leave at value activity Idle begins is = inl (refl, refl, tt)
cell_moves words cell own by.Draw at value activity Idle begins is = inl (refl, refl, tt)
cell_moves words cell own kind at value activity phase begins is = absurd begins

-- A number word is odd only while a writer has claimed it.
use Rattle.std.proofs.Common.{◌≡◌, ℕ, ◌+◌, ◌*◌, ◌%◌, ◌==◌, ◌⊎◌, Bool, true, false, List, Option, refl, sym, ◌∙◌, ap, inl, inr, arith}
use Rattle.std.proofs.lemmas.Bool.{true≢false, cond_both, eqb-true, eqb-false, eq-eqb}
use prog.Atomic.{either}
use Rattle.interleavings.specs.declared.activity.HeldTurn.{HeldTurn}
use Rattle.interleavings.specs.declared.activity.OddLooks.{OddLooks}
use Rattle.interleavings.specs.declared.activity.Phase.{Phase}
use Rattle.interleavings.specs.declared.activity.Phase.TheVariants.{Idle, Loaded, Numbered, Marked, Fetched, Stored, Looked}
use Rattle.interleavings.specs.declared.event.Event.{Event}
use Rattle.interleavings.specs.declared.kind.Kind.{Kind}
use Rattle.interleavings.specs.declared.kind.Kind.TheVariants as by
use Rattle.interleavings.specs.AtomicStep.{SharedWord, Number, word_of, Begins, is_even, word_after, phase_if, phase_after}
use Rattle.interleavings.specs.History.{put_word}

-- a writer in this phase has claimed the number of the cell and not completed it
abbrev pub Claims : ℕ → Phase → Type 0
Claims cell Idle = ⊥
Claims cell (Loaded at value) = ⊥
Claims cell (Numbered at n) = ⊥
Claims cell (Marked at n) = cell ≡ at
Claims cell (Fetched at n old) = cell ≡ at
Claims cell (Stored at n old value) = cell ≡ at
Claims cell (Looked monitor turn) = ⊥

-- an odd number is one that this step made so, or one that was odd before and that a thread which claimed it still claims
abbrev pub IsOddFrom : ℕ → ℕ → ℕ → Phase → Phase → Type 0
IsOddFrom cell word word' phase phase' = is_even word' ≡ false → Claims cell phase' ⊎ ((is_even word ≡ false) × (Claims cell phase → Claims cell phase'))

-- a completed number is even
next_even : (n : ℕ) → is_even (2 * n + 2) ≡ true
next_even n = eq-eqb ((2 * n + 2) % 2) 0 (omega arith)

-- a word that is put back as it was met
same_back : (words : SharedWord → ℕ) (cell at : ℕ) → put_word words (Number at) (words (Number at)) (Number cell) ≡ words (Number cell)
same_back words cell at = cond_both (cell == at) (words (Number at)) (words (Number cell)) (λ x. x ≡ words (Number cell)) (λ e. ap (λ c. words (Number c)) (sym (eqb-true cell at e))) (λ e. refl)

module _ (words : SharedWord → ℕ) (cell at : ℕ) where
  -- a step that leaves the number word, of a thread that claims no cell
  loads : (phase phase' : Phase) → (Claims cell phase → ⊥) → IsOddFrom cell (words (Number cell)) (put_word words (Number at) (words (Number at)) (Number cell)) phase phase'
  loads phase phase' none odd = inr (sym (ap is_even (same_back words cell at)) ∙ odd, λ m. absurd (none m))

  -- a writer makes the number odd
  makes_odd : (a n word : ℕ) → at ≡ a → IsOddFrom cell (words (Number cell)) (put_word words (Number at) word (Number cell)) (Numbered a n) (Marked a n)
  makes_odd a n word same = cond_both (cell == at) word (words (Number cell)) (λ x. is_even x ≡ false → (cell ≡ a) ⊎ ((is_even (words (Number cell)) ≡ false) × (⊥ → cell ≡ a))) (λ e odd. inl (eqb-true cell at e ∙ same)) (λ e odd. inr (odd, λ m. absurd m))

  -- a writer that claims, by whether it met the number that it saw
  claims : (met_it : Bool) (a n : ℕ) → at ≡ a → IsOddFrom cell (words (Number cell)) (put_word words (Number at) (either met_it (2 * n + 1) (words (Number at))) (Number cell)) (Numbered a n) (phase_if met_it (Marked a n) Idle)
  claims true a n same = makes_odd a n (2 * n + 1) same
  claims false a n same = loads (Numbered a n) Idle (λ m. m)

  -- a writer makes the number even again
  completes : (a n : ℕ) (old : Option ℕ) (value : ℕ) → at ≡ a → IsOddFrom cell (words (Number cell)) (put_word words (Number at) (2 * n + 2) (Number cell)) (Stored a n old value) Idle
  completes a n old value same = cond_both (cell == at) (2 * n + 2) (words (Number cell)) (λ x. is_even x ≡ false → ⊥ ⊎ ((is_even (words (Number cell)) ≡ false) × (cell ≡ a → ⊥))) (λ e odd. absurd (true≢false (sym (next_even n) ∙ odd))) (λ e odd. inr (odd, λ m. eqb-false cell at e (m ∙ sym same)))

-- by the step's kind and the phase: where a number is odd after a step, a thread that claimed it still does
pub odd_after : (words : SharedWord → ℕ) (cell : ℕ) (kind : Kind) (at value : ℕ) (name : Option ℕ) (phase : Phase) (events : List Event) (held : List HeldTurn) (looks : Option OddLooks) → Begins kind at phase → IsOddFrom cell (words (Number cell)) (put_word words (word_of kind at) (word_after kind at value (record { name = name; phase = phase; events = events; held = held; looks = looks }) (words (word_of kind at))) (Number cell)) phase (phase_after kind at value phase (words (word_of kind at)))
odd_after words cell by.ValueLoad at value name Idle events held looks begins = λ odd. inr (odd, λ m. absurd m)
odd_after words cell by.NumberLoad at value name (Loaded a v) events held looks begins = loads words cell at (Loaded a v) (phase_after by.NumberLoad at value (Loaded a v) (words (Number at))) (λ m. m)
odd_after words cell by.SeeNumber at value name Idle events held looks begins = loads words cell at Idle (phase_after by.SeeNumber at value Idle (words (Number at))) (λ m. m)
odd_after words cell by.Claim at value name (Numbered a n) events held looks begins = claims words cell at (words (Number at) == 2 * n) a n begins
odd_after words cell by.Fetch at value name (Marked a n) events held looks begins = λ odd. inr (odd, λ m. m)
odd_after words cell by.Put at value name (Marked a n) events held looks begins = λ odd. inr (odd, λ m. m)
odd_after words cell by.Put at value name (Fetched a n old) events held looks begins = λ odd. inr (odd, λ m. m)
odd_after words cell by.Complete at value name (Stored a n old v) events held looks begins = completes words cell at a n old v begins
odd_after words cell by.Look at value name Idle events held looks begins = λ odd. inr (odd, λ m. absurd m)
odd_after words cell by.Enter at value name (Looked a turn) events held looks begins = λ odd. inr (odd, λ m. absurd m)
odd_after words cell by.Leave at value name Idle events held looks begins = λ odd. inr (odd, λ m. absurd m)
odd_after words cell by.Draw at value name Idle events held looks begins = λ odd. inr (odd, λ m. absurd m)
odd_after words cell kind at value name phase events held looks begins = absurd begins

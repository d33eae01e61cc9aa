-- The event of each step of a series stands where its mark says, after a step.
use Rattle.std.proofs.Common.{◌≡◌, ℕ, ◌+◌, ◌*◌, ◌/◌, ◌==◌, ◌⊎◌, Bool, true, false, if◌then◌else◌, List, [], ◌∷◌, ◌++◌, length, Option, Some, None, option_and_then, slice_get, refl, sym, ◌∙◌, ap, subst, inl, inr, arith}
use Rattle.std.proofs.lemmas.Bool.{false≢true, eqb-true, eq-eqb}
use Rattle.std.proofs.lemmas.Option.{none-some, same_Some}
use Rattle.interleavings.specs.declared.activity.Activity.{Activity}
use Rattle.interleavings.specs.declared.activity.Phase.{Phase}
use Rattle.interleavings.specs.declared.activity.Phase.TheVariants.{Idle, Loaded, Numbered, Marked, Fetched, Stored, Looked}
use Rattle.interleavings.specs.declared.event.Event.{Event}
use Rattle.interleavings.specs.declared.event.Event.TheVariants as events
use Rattle.interleavings.specs.declared.kind.Kind.{Kind}
use Rattle.interleavings.specs.declared.kind.Kind.TheVariants as by
use Rattle.interleavings.specs.AtomicStep.{SharedWord, Monitor, word_of, Begins, Suits, held_turn, turn_or_zero, is_even, entered_if, finished_by, with_event, phase_after, activity_after}
use Rattle.interleavings.specs.Events.{write_of, entered_by, left_by}
use Rattle.histories.specs.Chronicle.{Series, Puts, Entries, Exits, Chronicle, IsStanding, HasPut, IsMade, number_if, claim_of, share}
use Rattle.histories.proofs.EventLists.{told_kept, event_new}
use Rattle.histories.proofs.MonitorMoves.{holds_half}
use Rattle.histories.proofs.Notes.{adds}

-- a claim tells its cell and its number
pub number_tells : (b : Bool) (number k : ℕ) → number_if b number ≡ Some k → (b ≡ true) × (number ≡ k)
number_tells true number k e = (refl, same_Some number k e)
number_tells false number k e = absurd (none-some k e)

-- the write that the mark names stands at its spot
abbrev pub IsPutEvent : Chronicle → List Event → ℕ → ℕ → Type 0
IsPutEvent c done cell k = option_and_then write_of (slice_get done (c.mark (Puts cell) k).spot) ≡ Some (record { cell = cell; number = k; value = (c.mark (Puts cell) k).value })

completes_made : (c : Chronicle) (t a n v : ℕ) (old : Option ℕ) (done : List Event) (event : Event) (cell k : ℕ) → HasPut c t (length done) a n v old → write_of event ≡ Some (record { cell = a; number = n + 1; value = v }) → claim_of cell (Stored a n old v) ≡ Some k → IsPutEvent c (done ++ event ∷ []) cell k
completes_made c t a n v old done event cell k put writes claim =
    let is = number_tells (cell == a) (n + 1) k claim in
    subst (λ (x : ℕ). IsPutEvent c (done ++ event ∷ []) x k) (sym (eqb-true cell a is.0)) (subst (λ (y : ℕ). IsPutEvent c (done ++ event ∷ []) a y) is.1
    (ap (λ i. option_and_then write_of (slice_get (done ++ event ∷ []) i)) (ap (λ m. m.spot) put.mark)
    ∙ ap (option_and_then write_of) (event_new done event)
    ∙ writes
    ∙ ap (λ (x : ℕ). Some (record { cell = a; number = n + 1; value = x })) (sym (ap (λ m. m.value) put.mark))))

-- what was put stays claimed or is completed
claim_kept : (words : SharedWord → ℕ) (c : Chronicle) (who : ℕ) (kind : Kind) (at value : ℕ) (activity : Activity) (phase : Phase) (cell k : ℕ) → Begins kind at phase → IsStanding c who (length activity.events) phase → claim_of cell phase ≡ Some k → IsPutEvent c (with_event activity.events (finished_by kind at (record activity { phase = phase }) (words (word_of kind at)))) cell k ⊎ (claim_of cell (phase_after kind at value phase (words (word_of kind at))) ≡ Some k)
claim_kept words c who by.ValueLoad at value activity Idle cell k begins stands claim = absurd (none-some k claim)
claim_kept words c who by.NumberLoad at value activity (Loaded a v) cell k begins stands claim = absurd (none-some k claim)
claim_kept words c who by.SeeNumber at value activity Idle cell k begins stands claim = absurd (none-some k claim)
claim_kept words c who by.Claim at value activity (Numbered a n) cell k begins stands claim = absurd (none-some k claim)
claim_kept words c who by.Fetch at value activity (Marked a n) cell k begins stands claim = inr claim
claim_kept words c who by.Put at value activity (Marked a n) cell k begins stands claim = inr claim
claim_kept words c who by.Put at value activity (Fetched a n old) cell k begins stands claim = inr claim
claim_kept words c who by.Complete at value activity (Stored a n None v) cell k begins stands claim = inl (completes_made c who a n v None activity.events _ cell k stands refl claim)
claim_kept words c who by.Complete at value activity (Stored a n (Some old) v) cell k begins stands claim = inl (completes_made c who a n v (Some old) activity.events _ cell k stands refl claim)
claim_kept words c who by.Look at value activity Idle cell k begins stands claim = absurd (none-some k claim)
claim_kept words c who by.Enter at value activity (Looked m turn) cell k begins stands claim = absurd (none-some k claim)
claim_kept words c who by.Leave at value activity Idle cell k begins stands claim = absurd (none-some k claim)
claim_kept words c who by.Draw at value activity Idle cell k begins stands claim = absurd (none-some k claim)
claim_kept words c who kind at value activity phase cell k begins stands claim = absurd begins

-- the events of earlier steps are there
pub made_kept : (words : SharedWord → ℕ) (c : Chronicle) (who : ℕ) (kind : Kind) (at value : ℕ) (activity : Activity) (series : Series) (k : ℕ) → Begins kind at activity.phase → IsStanding c who (length activity.events) activity.phase → IsMade series k (c.mark series k) activity → IsMade series k (c.mark series k) (activity_after kind at value activity (words (word_of kind at)))
made_kept words c who kind at value activity (Puts cell) k begins stands (inl event) = inl (told_kept write_of activity.events _ _ _ event)
made_kept words c who kind at value activity (Puts cell) k begins stands (inr claim) = claim_kept words c who kind at value activity activity.phase cell k begins stands claim
made_kept words c who kind at value activity (Entries m) k begins stands is = told_kept entered_by activity.events _ _ _ is
made_kept words c who kind at value activity (Exits m) k begins stands is = told_kept left_by activity.events _ _ _ is

-- a value that was put is claimed
puts_claim : (c : Chronicle) (at cell a n : ℕ) → (cell == at) ≡ true → at ≡ a → c.count (Puts a) ≡ n → number_if (cell == a) (n + 1) ≡ Some (c.count (Puts cell) + 1)
puts_claim c at cell a n e same count =
    let is : cell ≡ a = eqb-true cell at e ∙ same in
    ap (λ b. number_if b (n + 1)) (eq-eqb cell a is) ∙ ap (λ (x : ℕ). Some (x + 1)) (sym (ap (λ x. c.count (Puts x)) is ∙ count))

and_tells : (a b : Bool) → (if a then b else false) ≡ true → (a ≡ true) × (b ≡ true)
and_tells true b e = (refl, e)
and_tells false b e = absurd (false≢true e)

entered_made : (done : List Event) (b : Bool) (at turn monitor number : ℕ) → b ≡ true → monitor ≡ at → number ≡ turn → option_and_then entered_by (slice_get (with_event done (entered_if b at turn)) (length done)) ≡ Some (record { monitor = monitor; turn = number })
entered_made done true at turn monitor number e same next = ap (option_and_then entered_by) (event_new done (events.Enter at turn)) ∙ ap (λ (x : ℕ). Some (record { monitor = x; turn = turn })) (sym same) ∙ ap (λ (x : ℕ). Some (record { monitor = monitor; turn = x })) (sym next)
entered_made done false at turn monitor number e same next = absurd (false≢true e)

left_made : (done : List Event) (at turn monitor number : ℕ) → monitor ≡ at → number ≡ turn → option_and_then left_by (slice_get (done ++ events.Exit at turn ∷ []) (length done)) ≡ Some (record { monitor = monitor; turn = number })
left_made done at turn monitor number same next = ap (option_and_then left_by) (event_new done (events.Exit at turn)) ∙ ap (λ (x : ℕ). Some (record { monitor = x; turn = turn })) (sym same) ∙ ap (λ (x : ℕ). Some (record { monitor = monitor; turn = x })) (sym next)

-- the event of the new step is there, or the value that it put is claimed
pub made_new : (words : SharedWord → ℕ) (c : Chronicle) (who : ℕ) (own : Bool) (kind : Kind) (at value : ℕ) (activity : Activity) (phase : Phase) (series : Series) → Begins kind at phase → Suits kind at (record activity { phase = phase }) → c.count (Entries at) ≡ (words (Monitor at) + 1) / 2 → c.count (Exits at) ≡ words (Monitor at) / 2 → held_turn at activity.held ≡ share (is_even (words (Monitor at))) own ((words (Monitor at) + 1) / 2) → IsStanding c who (length activity.events) phase → adds kind at phase (words (word_of kind at)) series ≡ true → IsMade series (c.count series + 1) (record { who = who; spot = length activity.events; time = c.now + 1; value = value }) (activity_after kind at value (record activity { phase = phase }) (words (word_of kind at)))
made_new words c who own by.Put at value activity (Marked a n) (Puts cell) begins suits entries exits held stands e = inr (puts_claim c at cell a n e begins stands)
made_new words c who own by.Put at value activity (Fetched a n old) (Puts cell) begins suits entries exits held stands e = inr (puts_claim c at cell a n e begins stands.0)
made_new words c who own by.Put at value activity phase (Puts cell) begins suits entries exits held stands e = absurd begins
made_new words c who own by.Enter at value activity (Looked m turn) (Entries monitor) begins suits entries exits held stands e =
    let is = and_tells (words (Monitor at) == 2 * turn) (monitor == at) e in
    let same : monitor ≡ at = eqb-true monitor at is.1 in
    entered_made activity.events (words (Monitor at) == 2 * turn) at (turn + 1) monitor (c.count (Entries monitor) + 1) is.0 same
    (omega (arith, ap (λ x. c.count (Entries x)) same, eqb-true (words (Monitor at)) (2 * turn) is.0, entries))
made_new words c who own by.Enter at value activity phase (Entries monitor) begins suits entries exits held stands e = absurd begins
made_new words c who own by.Leave at value activity Idle (Exits monitor) begins suits entries exits held stands e =
    let same : monitor ≡ at = eqb-true monitor at e in
    left_made activity.events at (turn_or_zero (held_turn at activity.held)) monitor (c.count (Exits monitor) + 1) same
    (omega (arith, ap (λ x. c.count (Exits x)) same, holds_half (words (Monitor at)) own (held_turn at activity.held) held suits, exits))
made_new words c who own by.Leave at value activity phase (Exits monitor) begins suits entries exits held stands e = absurd begins
made_new words c who own kind at value activity phase series begins suits entries exits held stands e = absurd (false≢true e)

-- What the words say of the numbers of puts, entries and exits, after a step.
use Rattle.std.proofs.Common.{◌≡◌, ℕ, ◌+◌, ◌*◌, ◌/◌, ◌%◌, ◌==◌, ◌<◌, ◌≤◌, Bool, true, false, if◌then◌else◌, length, Option, refl, sym, ◌∙◌, ap, subst, inl, inr, arith}
use Rattle.std.proofs.lemmas.Bool.{true≢false, false≢true, cond_both, eqb-true, ne_eqb}
use Rattle.std.proofs.lemmas.Option.{none-some}
use prog.Atomic.{either}
use Rattle.interleavings.specs.declared.activity.Activity.{Activity}
use Rattle.interleavings.specs.declared.activity.Phase.{Phase}
use Rattle.interleavings.specs.declared.activity.Phase.TheVariants.{Idle, Loaded, Numbered, Marked, Fetched, Stored, Looked}
use Rattle.interleavings.specs.declared.kind.Kind.{Kind}
use Rattle.interleavings.specs.declared.kind.Kind.TheVariants as by
use Rattle.interleavings.specs.AtomicStep.{SharedWord, Value, Number, word_of, Begins, is_even, word_after}
use Rattle.interleavings.specs.History.{put_word}
use Rattle.histories.specs.Chronicle.{Series, Puts, Entries, Exits, Mark, Chronicle, IsStanding, number_if, claim_of, share}
use Rattle.histories.proofs.CellMoves.{number_back}
use Rattle.histories.proofs.Growth.{Grows, mark_new, time_kept}
use Rattle.histories.proofs.MonitorMoves.{MonitorMoves}
use Rattle.histories.proofs.Notes.{count_if, mark_if, noted}
use Rattle.histories.proofs.Ownership.{even_half, odd_half, owner_at}
use Rattle.histories.proofs.Standings.{noted_at}

value_back : (words : SharedWord → ℕ) (cell at : ℕ) → put_word words (Value at) (words (Value at)) (Value cell) ≡ words (Value cell)
value_back words cell at = cond_both (cell == at) (words (Value at)) (words (Value cell)) (λ x. x ≡ words (Value cell)) (λ e. ap (λ c. words (Value c)) (sym (eqb-true cell at e))) (λ e. refl)

puts_value : (b : Bool) (count w : ℕ) (marks : ℕ → Mark) (new : Mark) → w ≡ (marks count).value → (if b then new.value else w) ≡ (mark_if b (count_if b count == count + 1) new (marks (count_if b count))).value
puts_value true count w marks new is = sym (ap (λ m. m.value) (mark_new true count (count + 1) new (marks (count + 1)) refl refl))
puts_value false count w marks new is = is

-- the value of a cell is that of its last put
pub value_after : (words words' : SharedWord → ℕ) (c : Chronicle) (who : ℕ) (kind : Kind) (at value : ℕ) (activity : Activity) (cell : ℕ) → words (Value cell) ≡ (c.mark (Puts cell) (c.count (Puts cell))).value → put_word words (word_of kind at) (word_after kind at value activity (words (word_of kind at))) (Value cell) ≡ ((noted who kind at value activity (words (word_of kind at)) words words' c).mark (Puts cell) ((noted who kind at value activity (words (word_of kind at)) words words' c).count (Puts cell))).value
value_after words words' c who by.ValueLoad at value activity cell is = value_back words cell at ∙ is
value_after words words' c who by.Fetch at value activity cell is = value_back words cell at ∙ is
value_after words words' c who by.Put at value activity cell is = puts_value (cell == at) (c.count (Puts cell)) (words (Value cell)) (c.mark (Puts cell)) _ is
value_after words words' c who kind at value activity cell is = is

-- an even number is twice the count of the values that were put
abbrev pub IsTwice : ℕ → ℕ → Type 0
IsTwice count word = is_even word ≡ true → count ≡ word / 2

odd_twice : (n : ℕ) → is_even (2 * n + 1) ≡ true → ⊥
odd_twice n even = true≢false (sym even ∙ ne_eqb ((2 * n + 1) % 2) 0 (λ e. omega arith))

claims_number : (words : SharedWord → ℕ) (cell at n count : ℕ) (met_it : Bool) → IsTwice count (words (Number cell)) → IsTwice count (put_word words (Number at) (either met_it (2 * n + 1) (words (Number at))) (Number cell))
claims_number words cell at n count false is = subst (λ (x : ℕ). IsTwice count x) (sym (number_back words cell at)) is
claims_number words cell at n count true is = cond_both (cell == at) (2 * n + 1) (words (Number cell)) (λ x. IsTwice count x) (λ e even. absurd (odd_twice n even)) (λ e. is)

odd_share : (b even own : Bool) (n half : ℕ) → number_if b (n + 1) ≡ share even own half → even ≡ true → b ≡ false
odd_share true true own n half e is = absurd (none-some (n + 1) (sym e))
odd_share true false own n half e is = absurd (false≢true is)
odd_share false even own n half e is = refl

puts_number : (b own : Bool) (n count w : ℕ) → number_if b (n + 1) ≡ share (is_even w) own ((w + 1) / 2) → IsTwice count w → IsTwice (count_if b count) w
puts_number b own n count w claim is even = ap (λ x. count_if x count) (odd_share b (is_even w) own n ((w + 1) / 2) claim even) ∙ is even

completes_number : (words : SharedWord → ℕ) (count : ℕ → ℕ) (cell at a n : ℕ) → at ≡ a → count a ≡ n + 1 → IsTwice (count cell) (words (Number cell)) → IsTwice (count cell) (if cell == at then 2 * n + 2 else words (Number cell))
completes_number words count cell at a n same made is = cond_both (cell == at) (2 * n + 2) (words (Number cell)) (λ x. IsTwice (count cell) x) (λ e even. ap count (eqb-true cell at e ∙ same) ∙ omega (arith, made)) (λ e. is)

-- by the step's kind and the phase
pub number_after : (words words' : SharedWord → ℕ) (c : Chronicle) (who : ℕ) (own : Bool) (kind : Kind) (at value : ℕ) (activity : Activity) (phase : Phase) (cell : ℕ) → Begins kind at phase → claim_of cell phase ≡ share (is_even (words (Number cell))) own ((words (Number cell) + 1) / 2) → IsStanding c who (length activity.events) phase → IsTwice (c.count (Puts cell)) (words (Number cell)) → IsTwice ((noted_at words words' c who kind at value activity phase).count (Puts cell)) (put_word words (word_of kind at) (word_after kind at value (record activity { phase = phase }) (words (word_of kind at))) (Number cell))
number_after words words' c who own by.ValueLoad at value activity Idle cell begins claim stands is = is
number_after words words' c who own by.NumberLoad at value activity (Loaded a v) cell begins claim stands is = subst (λ (x : ℕ). IsTwice (c.count (Puts cell)) x) (sym (number_back words cell at)) is
number_after words words' c who own by.SeeNumber at value activity Idle cell begins claim stands is = subst (λ (x : ℕ). IsTwice (c.count (Puts cell)) x) (sym (number_back words cell at)) is
number_after words words' c who own by.Claim at value activity (Numbered a n) cell begins claim stands is = claims_number words cell at n (c.count (Puts cell)) (words (Number at) == 2 * n) is
number_after words words' c who own by.Fetch at value activity (Marked a n) cell begins claim stands is = is
number_after words words' c who own by.Put at value activity (Marked a n) cell begins claim stands is = puts_number (cell == at) own n (c.count (Puts cell)) (words (Number cell)) (ap (λ x. number_if (cell == x) (n + 1)) begins ∙ claim) is
number_after words words' c who own by.Put at value activity (Fetched a n old) cell begins claim stands is = puts_number (cell == at) own n (c.count (Puts cell)) (words (Number cell)) (ap (λ x. number_if (cell == x) (n + 1)) begins ∙ claim) is
number_after words words' c who own by.Complete at value activity (Stored a n old v) cell begins claim stands is = completes_number words (λ x. c.count (Puts x)) cell at a n begins stands.count is
number_after words words' c who own by.Look at value activity Idle cell begins claim stands is = is
number_after words words' c who own by.Enter at value activity (Looked m turn) cell begins claim stands is = is
number_after words words' c who own by.Leave at value activity Idle cell begins claim stands is = is
number_after words words' c who own by.Draw at value activity Idle cell begins claim stands is = is
number_after words words' c who own kind at value activity phase cell begins claim stands is = absurd begins

-- a turn begins where the word was even
pub enters_even : (enters exits : Bool) (w w' : ℕ) (has has' : Option ℕ) → MonitorMoves enters exits w w' has has' → enters ≡ true → is_even w ≡ true
enters_even enters exits w w' has has' (inl same) e = absurd (true≢false (sym e ∙ same.2.0))
enters_even enters exits w w' has has' (inr (inl taken)) e = taken.0
enters_even enters exits w w' has has' (inr (inr given)) e = absurd (true≢false (sym e ∙ given.3.0))

-- a monitor's word counts the entries and the exits
pub turns_after : (enters exits own : Bool) (w w' : ℕ) (has has' : Option ℕ) (entries left : ℕ) → MonitorMoves enters exits w w' has has' → has ≡ share (is_even w) own ((w + 1) / 2) → entries ≡ (w + 1) / 2 → left ≡ w / 2 → (count_if enters entries ≡ (w' + 1) / 2) × (count_if exits left ≡ w' / 2)
turns_after enters exits own w w' has has' entries left (inl same) is e l =
    (ap (λ b. count_if b entries) same.2.0 ∙ (e ∙ ap (λ x. (x + 1) / 2) (sym same.0)), ap (λ b. count_if b left) same.2.1 ∙ (l ∙ ap (λ x. x / 2) (sym same.0)))
turns_after enters exits own w w' has has' entries left (inr (inl taken)) is e l =
    let even = even_half w taken.0 in
    let up : entries + 1 ≡ (w' + 1) / 2 = omega (arith, taken.1) in
    let stay : left ≡ w' / 2 = omega (arith, taken.1) in
    (ap (λ b. count_if b entries) taken.3.0 ∙ up, ap (λ b. count_if b left) taken.3.1 ∙ stay)
turns_after enters exits own w w' has has' entries left (inr (inr given)) is e l =
    let odd = odd_half w (owner_at (is_even w) own ((w + 1) / 2) has is given.0).0 in
    let stay : entries ≡ (w' + 1) / 2 = omega (arith, given.1) in
    let up : left + 1 ≡ w' / 2 = omega (arith, given.1) in
    (ap (λ b. count_if b entries) given.3.0 ∙ stay, ap (λ b. count_if b left) given.3.1 ∙ up)

-- one more only where the test passes
pub added : (b : Bool) (count : ℕ) → count + 1 ≤ count_if b count → b ≡ true
added true count le = refl
added false count le = absurd (omega arith)

-- a turn begins after the one before it has ended
pub apart_after : (c c' : Chronicle) (monitor w j : ℕ) → Grows c c' → ((series : Series) (k : ℕ) → k ≤ c.count series → (c.mark series k).time ≤ c.now) → c.count (Entries monitor) ≡ (w + 1) / 2 → c.count (Exits monitor) ≡ w / 2 → (c.count (Entries monitor) + 1 ≤ c'.count (Entries monitor) → is_even w ≡ true) → ((i : ℕ) → i + 1 ≤ c.count (Entries monitor) → (c.mark (Exits monitor) i).time < (c.mark (Entries monitor) (i + 1)).time) → j + 1 ≤ c'.count (Entries monitor) → (c'.mark (Exits monitor) j).time < (c'.mark (Entries monitor) (j + 1)).time
apart_after c c' monitor w j grows past entries left new_even apart le = elim (grows.each (Entries monitor) (j + 1) le) [
  | inl old ↦
      let there : j ≤ c.count (Exits monitor) = omega (arith, entries, left) in
      omega (arith, time_kept c c' grows (Exits monitor) j there, time_kept c c' grows (Entries monitor) (j + 1) old, apart j old)
  | inr new ↦
      let even = even_half w (new_even (omega (arith, new.0))) in
      let there : j ≤ c.count (Exits monitor) = omega (arith, entries, left, new.0) in
      omega (arith, time_kept c c' grows (Exits monitor) j there, past (Exits monitor) j there, new.1)
]

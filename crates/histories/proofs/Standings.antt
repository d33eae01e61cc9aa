-- How far each thread is, after a step of its own and after one of another thread.
use Rattle.std.proofs.Common.{◌≡◌, ℕ, ◌+◌, ◌*◌, ◌/◌, ◌==◌, ◌≤◌, Bool, true, false, length, Option, Some, None, refl, sym, ◌∙◌, ap, subst, arith}
use Rattle.std.proofs.lemmas.Bool.{false≢true, cond-true, eqb-true, eq-eqb}
use Rattle.std.proofs.lemmas.Option.{none-some}
use Rattle.interleavings.specs.declared.activity.Activity.{Activity}
use Rattle.interleavings.specs.declared.activity.Phase.{Phase}
use Rattle.interleavings.specs.declared.activity.Phase.TheVariants.{Idle, Loaded, Numbered, Marked, Fetched, Stored, Looked}
use Rattle.interleavings.specs.declared.kind.Kind.{Kind}
use Rattle.interleavings.specs.declared.kind.Kind.TheVariants as by
use Rattle.interleavings.specs.AtomicStep.{SharedWord, Value, Number, word_of, Begins, is_even, phase_if, phase_after, finished_by, with_event}
use Rattle.histories.specs.Chronicle.{Series, Puts, Chronicle, IsValueAt, IsOld, HasPut, IsStanding, number_if, claim_of}
use Rattle.histories.proofs.Growth.{Grows, noted_grows, mark_new, time_kept, value_kept, value_still, old_still}
use Rattle.histories.proofs.Notes.{adds, count_if, noted}
use Rattle.histories.proofs.Ownership.{even_twice}

-- the chronicle after a step in this phase
abbrev pub noted_at : (words words' : SharedWord → ℕ) (c : Chronicle) (who : ℕ) (kind : Kind) (at value : ℕ) (activity : Activity) (phase : Phase) → Chronicle
noted_at words words' c who kind at value activity phase = noted who kind at value (record activity { phase = phase }) (words (word_of kind at)) words words' c

-- how many events the thread has after a step in this phase
abbrev pub spot_at : (words : SharedWord → ℕ) (kind : Kind) (at : ℕ) (activity : Activity) (phase : Phase) → ℕ
spot_at words kind at activity phase = length (with_event activity.events (finished_by kind at (record activity { phase = phase }) (words (word_of kind at))))

-- a writer has something of the cell that it claimed
pub own_claim : (cell n : ℕ) → number_if (cell == cell) (n + 1) ≡ None → ⊥
own_claim cell n e = none-some (n + 1) (sym e ∙ ap (λ b. number_if b (n + 1)) (eq-eqb cell cell refl))

stand_if : (c : Chronicle) (t spot : ℕ) (b : Bool) (phase other : Phase) → IsStanding c t spot phase → IsStanding c t spot other → IsStanding c t spot (phase_if b phase other)
stand_if c t spot true phase other p q = p
stand_if c t spot false phase other p q = q

-- the value of a cell is that of its last put
value_now : (c c' : Chronicle) (at : ℕ) → Grows c c' → c'.count (Puts at) ≡ c.count (Puts at) → ((series : Series) (k : ℕ) → k ≤ c.count series → (c.mark series k).time ≤ c.now) → IsValueAt c' at (c.mark (Puts at) (c.count (Puts at))).value (c.now + 1)
value_now c c' at grows same past = record {
  last = c.count (Puts at);
  made = omega (arith, same);
  equal = value_kept c c' grows (Puts at) (c.count (Puts at)) (omega arith);
  cut = record {
    before = λ k le. omega (arith, time_kept c c' grows (Puts at) k le, past (Puts at) k le);
    behind = λ k less le. absurd (omega (arith, same));
  };
}

claims_stand : (c : Chronicle) (words : SharedWord → ℕ) (who spot at a n : ℕ) (met_it : Bool) → (words (Number at) == 2 * n) ≡ met_it → at ≡ a → ((cell : ℕ) → is_even (words (Number cell)) ≡ true → c.count (Puts cell) ≡ words (Number cell) / 2) → IsStanding c who spot (phase_if met_it (Marked a n) Idle)
claims_stand c words who spot at a n false e same number = tt
claims_stand c words who spot at a n true e same number =
    let met : words (Number a) ≡ 2 * n = ap (λ x. words (Number x)) (sym same) ∙ eqb-true (words (Number at)) (2 * n) e in
    omega (arith, number a (even_twice (words (Number a)) n met), met)

-- a writer puts its value
puts_stand : (words words' : SharedWord → ℕ) (c : Chronicle) (who at value : ℕ) (activity : Activity) (phase : Phase) (a n : ℕ) (old : Option ℕ) → at ≡ a → c.count (Puts a) ≡ n → IsOld c a n old → HasPut (noted_at words words' c who by.Put at value activity phase) who (length activity.events) a n value old
puts_stand words words' c who at value activity phase a n old same count before =
    let it : (a == at) ≡ true = eq-eqb a at (sym same) in
    let c' : Chronicle = noted_at words words' c who by.Put at value activity phase in
    record {
      count = ap (λ b. count_if b (c.count (Puts a))) it ∙ ap (λ x. x + 1) count;
      mark = mark_new (a == at) (c.count (Puts a)) (n + 1) (record { who = who; spot = length activity.events; time = c.now + 1; value = value }) (c.mark (Puts a) (n + 1)) it (ap (λ x. x + 1) (sym count))
          ∙ ap (λ (x : ℕ). record { who = who; spot = length activity.events; time = x; value = value }) (sym (cond-true (who == who) (c.now + 1) (c.begun who) (eq-eqb who who refl)));
      before = old_still c c' (noted_grows who by.Put at value (record activity { phase = phase }) (words (word_of by.Put at)) words words' c) a n old (omega (arith, count)) before;
    }

-- after a step of its own, by the kind and the phase
pub own_stands : (words words' : SharedWord → ℕ) (c : Chronicle) (who : ℕ) (kind : Kind) (at value : ℕ) (activity : Activity) (phase : Phase) → Begins kind at phase → ((series : Series) (k : ℕ) → k ≤ c.count series → (c.mark series k).time ≤ c.now) → ((cell : ℕ) → words (Value cell) ≡ (c.mark (Puts cell) (c.count (Puts cell))).value) → ((cell : ℕ) → is_even (words (Number cell)) ≡ true → c.count (Puts cell) ≡ words (Number cell) / 2) → c.begun who ≤ c.now → IsStanding c who (length activity.events) phase → IsStanding (noted_at words words' c who kind at value activity phase) who (spot_at words kind at activity phase) (phase_after kind at value phase (words (word_of kind at)))
own_stands words words' c who by.ValueLoad at value activity Idle begins past valued number begun stands =
    let c' : Chronicle = noted_at words words' c who by.ValueLoad at value activity Idle in
    let grows : Grows c c' = noted_grows who by.ValueLoad at value (record activity { phase = Idle }) (words (Value at)) words words' c in
    subst (λ (x : ℕ). IsValueAt c' at (words (Value at)) x) (sym (cond-true (who == who) (c.now + 1) (c.begun who) (eq-eqb who who refl)))
    (subst (λ (x : ℕ). IsValueAt c' at x (c.now + 1)) (sym (valued at)) (value_now c c' at grows refl past))
own_stands words words' c who by.NumberLoad at value activity (Loaded a v) begins past valued number begun stands =
    let c' : Chronicle = noted_at words words' c who by.NumberLoad at value activity (Loaded a v) in
    let grows : Grows c c' = noted_grows who by.NumberLoad at value (record activity { phase = Loaded a v }) (words (Number at)) words words' c in
    stand_if c' who (spot_at words by.NumberLoad at activity (Loaded a v)) (is_even (words (Number at))) Idle (Loaded a v) tt (value_still c c' grows a v (c.begun who) begun stands)
own_stands words words' c who by.SeeNumber at value activity Idle begins past valued number begun stands =
    stand_if (noted_at words words' c who by.SeeNumber at value activity Idle) who (spot_at words by.SeeNumber at activity Idle) (is_even (words (Number at))) (Numbered at (words (Number at) / 2)) Idle tt tt
own_stands words words' c who by.Claim at value activity (Numbered a n) begins past valued number begun stands =
    claims_stand (noted_at words words' c who by.Claim at value activity (Numbered a n)) words who (spot_at words by.Claim at activity (Numbered a n)) at a n (words (Number at) == 2 * n) refl begins number
own_stands words words' c who by.Fetch at value activity (Marked a n) begins past valued number begun stands =
    (stands, ap (λ k. (c.mark (Puts a) k).value) (sym stands) ∙ sym (valued a) ∙ ap (λ x. words (Value x)) (sym begins))
own_stands words words' c who by.Put at value activity (Marked a n) begins past valued number begun stands = puts_stand words words' c who at value activity (Marked a n) a n None begins stands tt
own_stands words words' c who by.Put at value activity (Fetched a n old) begins past valued number begun stands = puts_stand words words' c who at value activity (Fetched a n old) a n (Some old) begins stands.0 stands.1
own_stands words words' c who by.Complete at value activity (Stored a n old v) begins past valued number begun stands = tt
own_stands words words' c who by.Look at value activity Idle begins past valued number begun stands =
    stand_if (noted_at words words' c who by.Look at value activity Idle) who (spot_at words by.Look at activity Idle) (is_even (words (word_of by.Look at))) (Looked at (words (word_of by.Look at) / 2)) Idle tt tt
own_stands words words' c who by.Enter at value activity (Looked m turn) begins past valued number begun stands = tt
own_stands words words' c who by.Leave at value activity Idle begins past valued number begun stands = tt
own_stands words words' c who by.Draw at value activity Idle begins past valued number begun stands = tt
own_stands words words' c who kind at value activity phase begins past valued number begun stands = absurd begins

-- after a step of another thread, by which no value comes into a cell that this one has claimed
pub others_stand : (c c' : Chronicle) (t spot : ℕ) (phase : Phase) → Grows c c' → c'.begun t ≡ c.begun t → c.begun t ≤ c.now → ((cell : ℕ) → (claim_of cell phase ≡ None → ⊥) → c'.count (Puts cell) ≡ c.count (Puts cell)) → IsStanding c t spot phase → IsStanding c' t spot phase
others_stand c c' t spot Idle grows begun past same stands = tt
others_stand c c' t spot (Loaded a v) grows begun past same stands = subst (λ (x : ℕ). IsValueAt c' a v x) (sym begun) (value_still c c' grows a v (c.begun t) past stands)
others_stand c c' t spot (Numbered a n) grows begun past same stands = tt
others_stand c c' t spot (Marked a n) grows begun past same stands = same a (own_claim a n) ∙ stands
others_stand c c' t spot (Fetched a n old) grows begun past same stands = (same a (own_claim a n) ∙ stands.0, value_kept c c' grows (Puts a) n (omega (arith, stands.0)) ∙ stands.1)
others_stand c c' t spot (Stored a n old v) grows begun past same stands = record {
  count = same a (own_claim a n) ∙ stands.count;
  mark = grows.kept (Puts a) (n + 1) (omega (arith, stands.count)) ∙ stands.mark ∙ ap (λ (x : ℕ). record { who = t; spot = spot; time = x; value = v }) (sym begun);
  before = old_still c c' grows a n old (omega (arith, stands.count)) stands.before;
}
others_stand c c' t spot (Looked m turn) grows begun past same stands = tt

-- only a writer that has claimed a cell puts a value into it
pub puts_claimed : (kind : Kind) (at : ℕ) (phase : Phase) (met cell : ℕ) → Begins kind at phase → adds kind at phase met (Puts cell) ≡ true → claim_of cell phase ≡ None → ⊥
puts_claimed by.Put at (Marked a n) met cell begins e none = none-some (n + 1) (sym none ∙ ap (λ b. number_if b (n + 1)) (eq-eqb cell a (eqb-true cell at e ∙ begins)))
puts_claimed by.Put at (Fetched a n old) met cell begins e none = none-some (n + 1) (sym none ∙ ap (λ b. number_if b (n + 1)) (eq-eqb cell a (eqb-true cell at e ∙ begins)))
puts_claimed by.Put at phase met cell begins e none = absurd begins
puts_claimed kind at phase met cell begins e none = absurd (false≢true e)

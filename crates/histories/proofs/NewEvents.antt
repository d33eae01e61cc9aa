-- What the event tells that a step finishes.
use Rattle.std.proofs.Common.{◌≡◌, ℕ, ◌+◌, ◌*◌, ◌/◌, ◌==◌, ◌≤◌, Bool, true, false, if◌then◌else◌, length, Option, Some, None, refl, sym, ◌∙◌, ap, arith}
use Rattle.std.proofs.lemmas.Bool.{eqb-true, eq-eqb}
use Rattle.interleavings.specs.declared.activity.Activity.{Activity}
use Rattle.interleavings.specs.declared.activity.Phase.{Phase}
use Rattle.interleavings.specs.declared.activity.Phase.TheVariants.{Idle, Loaded, Numbered, Marked, Fetched, Stored, Looked}
use Rattle.interleavings.specs.declared.event.Event.{Event}
use Rattle.interleavings.specs.declared.kind.Kind.{Kind}
use Rattle.interleavings.specs.declared.kind.Kind.TheVariants as by
use Rattle.interleavings.specs.AtomicStep.{SharedWord, Number, Monitor, word_of, Begins, Suits, held_turn, turn_or_zero, is_even, read_if, entered_if, finished_by}
use Rattle.histories.specs.Chronicle.{Series, Puts, Entries, Exits, Stamp, Chronicle, IsStanding, HasPut, IsStepOf, IsWriteOf, Tells, share}
use Rattle.histories.proofs.Growth.{Grows, noted_grows, mark_new, time_kept, value_kept, cuts_still}
use Rattle.histories.proofs.MonitorMoves.{holds_half}
use Rattle.histories.proofs.Notes.{count_if, from_of}
use Rattle.histories.proofs.Standings.{noted_at}

-- what an event tells, if there is one
abbrev pub TellsIf : Chronicle → ℕ → ℕ → Stamp → Option Event → Type 0
TellsIf c t spot stamp None = Unit {0}
TellsIf c t spot stamp (Some event) = Tells c t spot stamp event

-- a read is finished at an even number, which counts the values put so far
reads_tell : (c c' : Chronicle) (words : SharedWord → ℕ) (t spot at a v : ℕ) (b : Bool) → is_even (words (Number at)) ≡ b → at ≡ a → Grows c c' → c'.count (Puts a) ≡ c.count (Puts a) → ((series : Series) (k : ℕ) → k ≤ c.count series → (c.mark series k).time ≤ c.now) → ((cell : ℕ) → is_even (words (Number cell)) ≡ true → c.count (Puts cell) ≡ words (Number cell) / 2) → c.begun t ≤ c.now → IsStanding c t spot (Loaded a v) → TellsIf c' t spot (record { from = c.begun t; upto = c.now + 1 }) (read_if b (Loaded a v) (words (Number at) / 2))
reads_tell c c' words t spot at a v true even same grows still past number begun stands =
    let bound : c.count (Puts a) ≡ words (Number at) / 2 = number a (ap (λ x. is_even (words (Number x))) (sym same) ∙ even) ∙ ap (λ x. words (Number x) / 2) (sym same) in
    record {
      last = stands.last;
      within = omega (arith, stands.made);
      made = omega arith;
      equal = value_kept c c' grows (Puts a) stands.last stands.made ∙ stands.equal;
      from = cuts_still c c' grows a stands.last (c.begun t) stands.made begun stands.cut;
      upto = record {
        before = λ k le. (let old : k ≤ c.count (Puts a) = omega arith in omega (arith, time_kept c c' grows (Puts a) k old, past (Puts a) k old));
        behind = λ k less le. absurd (omega arith);
      };
    }
reads_tell c c' words t spot at a v false even same grows still past number begun stands = tt

-- a write is completed that was put
writes_tell : (c c' : Chronicle) (t spot a n v : ℕ) (old : Option ℕ) → Grows c c' → HasPut c t spot a n v old → IsWriteOf c' a v (n + 1) t spot (c.begun t)
writes_tell c c' t spot a n v old grows put =
    let mark : c'.mark (Puts a) (n + 1) ≡ record { who = t; spot = spot; time = c.begun t; value = v } = grows.kept (Puts a) (n + 1) (omega (arith, put.count)) ∙ put.mark in
    record {
      step = record {
        some = omega arith;
        made = omega (arith, put.count, grows.more (Puts a));
        who = ap (λ m. m.who) mark;
        place = ap (λ m. m.spot) mark;
        moment = ap (λ m. m.time) mark;
      };
      equal = ap (λ m. m.value) mark;
    }

-- the next step of a series
next_step : (b : Bool) (count k who spot now value : ℕ) (c' : Chronicle) (series : Series) → b ≡ true → k ≡ count + 1 → c'.count series ≡ count_if b count → c'.mark series k ≡ record { who = who; spot = spot; time = now; value = value } → IsStepOf c' series k who spot now
next_step b count k who spot now value c' series e next counts mark =
    let more : count_if b count ≡ count + 1 = ap (λ x. count_if x count) e in
    record {
      some = omega arith;
      made = omega arith;
      who = ap (λ m. m.who) mark;
      place = ap (λ m. m.spot) mark;
      moment = ap (λ m. m.time) mark;
    }

enters_tell : (words words' : SharedWord → ℕ) (c : Chronicle) (who at value : ℕ) (activity : Activity) (m turn : ℕ) (b : Bool) → (words (Monitor at) == 2 * turn) ≡ b → c.count (Entries at) ≡ (words (Monitor at) + 1) / 2 → TellsIf (noted_at words words' c who by.Enter at value activity (Looked m turn)) who (length activity.events) (record { from = c.now + 1; upto = c.now + 1 }) (entered_if b at (turn + 1))
enters_tell words words' c who at value activity m turn true e entries =
    let it : (if words (Monitor at) == 2 * turn then at == at else false) ≡ true = ap (λ (x : Bool). if x then at == at else false) e ∙ eq-eqb at at refl in
    let next : turn + 1 ≡ c.count (Entries at) + 1 = omega (arith, eqb-true (words (Monitor at)) (2 * turn) e, entries) in
    next_step (if words (Monitor at) == 2 * turn then at == at else false) (c.count (Entries at)) (turn + 1) who (length activity.events) (c.now + 1) value (noted_at words words' c who by.Enter at value activity (Looked m turn)) (Entries at) it next refl
    (mark_new (if words (Monitor at) == 2 * turn then at == at else false) (c.count (Entries at)) (turn + 1) (record { who = who; spot = length activity.events; time = c.now + 1; value = value }) (c.mark (Entries at) (turn + 1)) it next)
enters_tell words words' c who at value activity m turn false e entries = tt

leaves_tell : (words words' : SharedWord → ℕ) (c : Chronicle) (who at value : ℕ) (activity : Activity) (turn : ℕ) → 2 * turn ≡ words (Monitor at) + 1 → c.count (Exits at) ≡ words (Monitor at) / 2 → IsStepOf (noted_at words words' c who by.Leave at value activity Idle) (Exits at) turn who (length activity.events) (c.now + 1)
leaves_tell words words' c who at value activity turn is exits =
    let next : turn ≡ c.count (Exits at) + 1 = omega arith in
    next_step (at == at) (c.count (Exits at)) turn who (length activity.events) (c.now + 1) value (noted_at words words' c who by.Leave at value activity Idle) (Exits at) (eq-eqb at at refl) next refl
    (mark_new (at == at) (c.count (Exits at)) turn (record { who = who; spot = length activity.events; time = c.now + 1; value = value }) (c.mark (Exits at) turn) (eq-eqb at at refl) next)

-- by the step's kind and the phase
pub own_tells : (words words' : SharedWord → ℕ) (c : Chronicle) (who : ℕ) (own : Bool) (kind : Kind) (at value : ℕ) (activity : Activity) (phase : Phase) → Begins kind at phase → Suits kind at (record activity { phase = phase }) → ((series : Series) (k : ℕ) → k ≤ c.count series → (c.mark series k).time ≤ c.now) → ((cell : ℕ) → is_even (words (Number cell)) ≡ true → c.count (Puts cell) ≡ words (Number cell) / 2) → c.count (Entries at) ≡ (words (Monitor at) + 1) / 2 → c.count (Exits at) ≡ words (Monitor at) / 2 → held_turn at activity.held ≡ share (is_even (words (Monitor at))) own ((words (Monitor at) + 1) / 2) → c.begun who ≤ c.now → IsStanding c who (length activity.events) phase → TellsIf (noted_at words words' c who kind at value activity phase) who (length activity.events) (record { from = from_of kind (c.begun who) (c.now + 1); upto = c.now + 1 }) (finished_by kind at (record activity { phase = phase }) (words (word_of kind at)))
own_tells words words' c who own by.ValueLoad at value activity Idle begins suits past number entries exits held begun stands = tt
own_tells words words' c who own by.NumberLoad at value activity (Loaded a v) begins suits past number entries exits held begun stands =
    reads_tell c (noted_at words words' c who by.NumberLoad at value activity (Loaded a v)) words who (length activity.events) at a v (is_even (words (Number at))) refl begins (noted_grows who by.NumberLoad at value (record activity { phase = Loaded a v }) (words (Number at)) words words' c) refl past number begun stands
own_tells words words' c who own by.SeeNumber at value activity Idle begins suits past number entries exits held begun stands = tt
own_tells words words' c who own by.Claim at value activity (Numbered a n) begins suits past number entries exits held begun stands = tt
own_tells words words' c who own by.Fetch at value activity (Marked a n) begins suits past number entries exits held begun stands = tt
own_tells words words' c who own by.Put at value activity (Marked a n) begins suits past number entries exits held begun stands = tt
own_tells words words' c who own by.Put at value activity (Fetched a n old) begins suits past number entries exits held begun stands = tt
own_tells words words' c who own by.Complete at value activity (Stored a n None v) begins suits past number entries exits held begun stands =
    writes_tell c (noted_at words words' c who by.Complete at value activity (Stored a n None v)) who (length activity.events) a n v None (noted_grows who by.Complete at value (record activity { phase = Stored a n None v }) (words (Number at)) words words' c) stands
own_tells words words' c who own by.Complete at value activity (Stored a n (Some old) v) begins suits past number entries exits held begun stands = (
  writes_tell c (noted_at words words' c who by.Complete at value activity (Stored a n (Some old) v)) who (length activity.events) a n v (Some old) (noted_grows who by.Complete at value (record activity { phase = Stored a n (Some old) v }) (words (Number at)) words words' c) stands,
  λ below one. ap (λ k. (c.mark (Puts a) k).value) (let same : below ≡ n = omega arith in same) ∙ stands.before,
)
own_tells words words' c who own by.Look at value activity Idle begins suits past number entries exits held begun stands = tt
own_tells words words' c who own by.Enter at value activity (Looked m turn) begins suits past number entries exits held begun stands = enters_tell words words' c who at value activity m turn (words (Monitor at) == 2 * turn) refl entries
own_tells words words' c who own by.Leave at value activity Idle begins suits past number entries exits held begun stands = leaves_tell words words' c who at value activity (turn_or_zero (held_turn at activity.held)) (holds_half (words (Monitor at)) own (held_turn at activity.held) held suits) exits
own_tells words words' c who own by.Draw at value activity Idle begins suits past number entries exits held begun stands = tt
own_tells words words' c who own kind at value activity phase begins suits past number entries exits held begun stands = absurd begins

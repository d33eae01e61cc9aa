-- What each kind of step keeps.
use Rattle.std.proofs.Common.{◌≡◌, ℕ, ◌+◌, ◌*◌, ◌/◌, ◌==◌, ◌≤◌, Bool, true, false, cond, List, [], ◌∷◌, ◌++◌, count_by, max, Option, Some, None, refl, sym, ap, arith}
use Rattle.std.proofs.lemmas.Bool.{cond_both, eqb-true}
use Rattle.std.proofs.lemmas.List.Sums.{count_by-le-length, sum_by_push}
use Rattle.interleavings.specs.declared.activity.Activity.{Activity}
use Rattle.interleavings.specs.declared.activity.Phase.{Phase}
use Rattle.interleavings.specs.declared.activity.Phase.TheVariants.{Idle, Loaded, Numbered, Marked, Fetched, Stored, Looked}
use Rattle.interleavings.specs.declared.activity.SeenNumber.{SeenNumber}
use Rattle.interleavings.specs.declared.event.Event.{Event}
use Rattle.interleavings.specs.declared.event.Event.TheVariants as events
use Rattle.interleavings.specs.declared.kind.Kind.{Kind}
use Rattle.interleavings.specs.declared.kind.Kind.TheVariants as by
use Rattle.interleavings.specs.AtomicStep.{SharedWord, Drawn, Number, word_of, word_after, Begins, May, is_even, phase_if, read_if, entered_if, with_event, activity_after, name_after, seen_if, seen_after, number_in, held_turn, turn_or_zero}
use Rattle.interleavings.specs.History.{put_word, greatest_seen}
use Rattle.shared_rule.specs.declared.limits.TheConstants.{EVENT_LIMIT}
use Rattle.shared_rule.specs.Accesses.{HasRoom}
use Rattle.shared_rule.specs.Holding.{is_entered, under_way, begun_events}
use Rattle.shared_rule.specs.Views.{draws_after}

-- the step is no draw
abbrev pub IsNoDraw : Kind → ℕ → Type 0
IsNoDraw kind at = word_of kind at ≡ Drawn → ⊥

pub name_stays : (kind : Kind) (at : ℕ) → IsNoDraw kind at → (name : Option ℕ) (met : ℕ) → name_after kind name met ≡ name
name_stays by.ValueLoad at apart name met = refl
name_stays by.NumberLoad at apart name met = refl
name_stays by.SeeNumber at apart name met = refl
name_stays by.Claim at apart name met = refl
name_stays by.Fetch at apart name met = refl
name_stays by.Put at apart name met = refl
name_stays by.Complete at apart name met = refl
name_stays by.Look at apart name met = refl
name_stays by.Enter at apart name met = refl
name_stays by.Leave at apart name met = refl
name_stays by.Draw at apart name met = absurd (apart refl)

pub draws_stay : (kind : Kind) (at : ℕ) → IsNoDraw kind at → (draws : ℕ) → draws_after kind draws ≡ draws
draws_stay by.ValueLoad at apart draws = refl
draws_stay by.NumberLoad at apart draws = refl
draws_stay by.SeeNumber at apart draws = refl
draws_stay by.Claim at apart draws = refl
draws_stay by.Fetch at apart draws = refl
draws_stay by.Put at apart draws = refl
draws_stay by.Complete at apart draws = refl
draws_stay by.Look at apart draws = refl
draws_stay by.Enter at apart draws = refl
draws_stay by.Leave at apart draws = refl
draws_stay by.Draw at apart draws = absurd (apart refl)

-- the count of names stays
pub drawn_stays : (kind : Kind) (at : ℕ) → IsNoDraw kind at → (words : SharedWord → ℕ) (value : ℕ) → put_word words (word_of kind at) value Drawn ≡ words Drawn
drawn_stays by.ValueLoad at apart words value = refl
drawn_stays by.NumberLoad at apart words value = refl
drawn_stays by.SeeNumber at apart words value = refl
drawn_stays by.Claim at apart words value = refl
drawn_stays by.Fetch at apart words value = refl
drawn_stays by.Put at apart words value = refl
drawn_stays by.Complete at apart words value = refl
drawn_stays by.Look at apart words value = refl
drawn_stays by.Enter at apart words value = refl
drawn_stays by.Leave at apart words value = refl
drawn_stays by.Draw at apart words value = absurd (apart refl)

-- one event more that counts, or one that doesn't
counted : (done : List Event) (event : Event) → is_entered event ≡ true → count_by is_entered (done ++ event ∷ []) ≡ count_by is_entered done + 1
counted done event is = omega (arith, sum_by_push (λ x. cond (is_entered x) 1 0) done event, ap {B = ℕ} (λ b. cond b 1 0) is)

uncounted : (done : List Event) (event : Event) → is_entered event ≡ false → count_by is_entered (done ++ event ∷ []) ≡ count_by is_entered done
uncounted done event is = omega (arith, sum_by_push (λ x. cond (is_entered x) 1 0) done event, ap {B = ℕ} (λ b. cond b 1 0) is)

few_read : (done : List Event) (cell value bound most : ℕ) (b : Bool) → count_by is_entered done + 1 ≤ most → count_by is_entered (with_event done (read_if b (Loaded cell value) bound)) + under_way (phase_if b Idle (Loaded cell value)) ≤ most
few_read done cell value bound most true few = omega (arith, counted done (events.Read cell value bound) refl)
few_read done cell value bound most false few = few

few_seen : (done : List Event) (at half most : ℕ) (b : Bool) → count_by is_entered done + 1 ≤ most → count_by is_entered done + under_way (phase_if b (Numbered at half) Idle) ≤ most
few_seen done at half most true few = few
few_seen done at half most false few = omega arith

few_claimed : (done : List Event) (cell n most : ℕ) (b : Bool) → count_by is_entered done + 1 ≤ most → count_by is_entered done + under_way (phase_if b (Marked cell n) Idle) ≤ most
few_claimed done cell n most true few = few
few_claimed done cell n most false few = omega arith

few_looked : (done : List Event) (at half most : ℕ) (b : Bool) → count_by is_entered done + 1 ≤ most → count_by is_entered done + under_way (phase_if b (Looked at half) Idle) ≤ most
few_looked done at half most true few = few
few_looked done at half most false few = omega arith

few_entered : (done : List Event) (at turn most : ℕ) (b : Bool) → count_by is_entered done + 1 ≤ most → count_by is_entered (with_event done (entered_if b at turn)) + 0 ≤ most
few_entered done at turn most true few = omega (arith, counted done (events.Enter at turn) refl)
few_entered done at turn most false few = omega arith

few_after : (kind : Kind) (at value : ℕ) (activity : Activity) (phase : Phase) (met : ℕ) → Begins kind at phase → HasRoom kind activity.events → count_by is_entered activity.events + under_way phase ≤ EVENT_LIMIT → begun_events (activity_after kind at value (record activity { phase = phase }) met) ≤ EVENT_LIMIT
few_after by.ValueLoad at value activity Idle met begins room few = omega (arith, count_by-le-length is_entered activity.events)
few_after by.NumberLoad at value activity (Loaded cell v) met begins room few = few_read activity.events cell v (met / 2) EVENT_LIMIT (is_even met) few
few_after by.SeeNumber at value activity Idle met begins room few = few_seen activity.events at (met / 2) EVENT_LIMIT (is_even met) (omega (arith, count_by-le-length is_entered activity.events))
few_after by.Claim at value activity (Numbered cell n) met begins room few = few_claimed activity.events cell n EVENT_LIMIT (met == 2 * n) few
few_after by.Fetch at value activity (Marked cell n) met begins room few = few
few_after by.Put at value activity (Marked cell n) met begins room few = few
few_after by.Put at value activity (Fetched cell n old) met begins room few = few
few_after by.Complete at value activity (Stored cell n None v) met begins room few = omega (arith, counted activity.events (events.Write cell v (n + 1)) refl)
few_after by.Complete at value activity (Stored cell n (Some old) v) met begins room few = omega (arith, counted activity.events (events.Update cell old v (n + 1)) refl)
few_after by.Look at value activity Idle met begins room few = few_looked activity.events at (met / 2) EVENT_LIMIT (is_even met) (omega (arith, count_by-le-length is_entered activity.events))
few_after by.Enter at value activity (Looked monitor turn) met begins room few = few_entered activity.events at (turn + 1) EVENT_LIMIT (met == 2 * turn) few
few_after by.Leave at value activity Idle met begins room few = omega (arith, uncounted activity.events (events.Exit at (turn_or_zero (held_turn at activity.held))) refl)
few_after by.Draw at value activity Idle met begins room few = few
few_after kind at value activity phase met begins room few = absurd begins

-- a pass that begins an event may; one that goes on or ends one has begun it
pub few_begun : (kind : Kind) (at value : ℕ) (activity : Activity) (met : ℕ) → May kind at activity → HasRoom kind activity.events → begun_events activity ≤ EVENT_LIMIT → begun_events (activity_after kind at value activity met) ≤ EVENT_LIMIT
few_begun kind at value activity met may room few = few_after kind at value activity activity.phase met may.begins room few

-- the numbers seen, and those of the words
abbrev pub AreSeen : (SharedWord → ℕ) → List SeenNumber → Type 0
AreSeen words seen = (cell : ℕ) → greatest_seen cell seen ≤ words (Number cell) / 2

seen_more : (words : SharedWord → ℕ) (at number : ℕ) (seen : List SeenNumber) → AreSeen words seen → number ≤ words (Number at) / 2 → AreSeen words (record { cell = at; number = number } ∷ seen)
seen_more words at number seen are le cell =
    cond_both (at == cell) number 0 (λ (x : ℕ). max x (greatest_seen cell seen) ≤ words (Number cell) / 2)
    (λ same. (let below = are cell in let here : words (Number at) ≡ words (Number cell) = ap (λ c. words (Number c)) (eqb-true at cell same) in omega arith))
    (λ other. (let below = are cell in omega arith))

seen_read : (words : SharedWord → ℕ) (at met : ℕ) (seen : List SeenNumber) (b : Bool) → AreSeen words seen → met ≡ words (Number at) → AreSeen words (seen_if b (record { cell = at; number = met / 2 }) seen)
seen_read words at met seen true are is = seen_more words at (met / 2) seen are (omega arith)
seen_read words at met seen false are is = are

-- what a pass has seen of a cell is at most half of its number, after its step too
pub seen_kept : (kind : Kind) (at value : ℕ) (activity : Activity) (seen : List SeenNumber) (met : ℕ) (words : SharedWord → ℕ) → words (word_of kind at) ≡ word_after kind at value activity met → AreSeen words seen → AreSeen words (seen_after kind at activity.phase seen met)
seen_kept by.ValueLoad at value activity seen met words is are = are
seen_kept by.NumberLoad at value activity seen met words is are = seen_read words at met seen (is_even met) are (sym is)
seen_kept by.SeeNumber at value activity seen met words is are = are
seen_kept by.Claim at value activity seen met words is are = are
seen_kept by.Fetch at value activity seen met words is are = are
seen_kept by.Put at value activity seen met words is are = are
seen_kept by.Complete at value activity seen met words is are = seen_more words at (number_in activity.phase + 1) seen are (omega arith)
seen_kept by.Look at value activity seen met words is are = are
seen_kept by.Enter at value activity seen met words is are = are
seen_kept by.Leave at value activity seen met words is are = are
seen_kept by.Draw at value activity seen met words is are = are

-- An extension has as many places as there are events: with each place one fewer is left.
use Rattle.std.proofs.Common.{◌≡◌, ◌≢◌, ◌∙◌, ℕ, zero, suc, ◌+◌, ◌<◌, Bool, true, false, if◌then◌else◌, List, [], ◌∷◌, Option, Some, None, refl, sym, ap, arith, inl, inr, length, get_or}
use Rattle.std.specs.Prelude.{is_some, slice_get, sum_by}
use Rattle.std.proofs.lemmas.List.Sums.{sum_by-cons}
use Rattle.std.proofs.lemmas.Option.{slice_get_within}
use Rattle.interleavings.specs.declared.event.Event.{Event}
use Rattle.interleavings.specs.declared.traces.Place.{Place}
use Rattle.interleavings.specs.TraceLists.{TraceLists, events_of}
use Rattle.linkage.specs.Sources.{event_at}
use Rattle.event_order.specs.DirectOrder.{LinkRows}
use Rattle.event_order.specs.Extensions.{Extends, IsPlace, same_place, standing_too}
use Rattle.event_order.specs.Laws.{ExtensionsAreWhole}
use Rattle.event_order.specs.Sums.{upto}
use Rattle.event_order.proofs.Places.{cases_place}
use Rattle.event_order.proofs.Sums.{upto_one, upto_same}

-- 1 where the place doesn't stand, or 0
abbrev unstood : (Place → Bool) → ℕ → ℕ → ℕ
unstood stands thread i = if stands (record { thread = thread; place = i }) then 0 else 1

-- how many places of a thread don't stand
abbrev thread_left : TraceLists → (Place → Bool) → ℕ → ℕ
thread_left traces stands thread = upto (unstood stands thread) (length (events_of traces thread))

-- how many places don't stand
abbrev left : TraceLists → (Place → Bool) → ℕ
left traces stands = upto (thread_left traces stands) (length traces.events)

abbrev at_place : ℕ → ℕ → Place
at_place thread i = record { thread = thread; place = i }

there : (found : Option Event) → is_some found ≡ true → (event : Event) × (found ≡ Some event)
there (Some event) some = (event, refl)
there None some = absurd (cc)

inside_row : (traces : TraceLists) (at : Place) → IsPlace traces at → at.place < length (events_of traces at.thread)
inside_row traces at place = slice_get_within (events_of traces at.thread) at.place _ (there (event_at traces at) place).1

past_all : (events : List (List Event)) (thread : ℕ) → 0 < length (get_or events thread []) → thread < length events
past_all [] thread some = absurd (omega arith)
past_all (row ∷ rows) zero some = omega arith
past_all (row ∷ rows) (suc thread) some = let rest = past_all rows thread some in omega arith

inside_all : (traces : TraceLists) (at : Place) → IsPlace traces at → at.thread < length traces.events
inside_all traces at place = let inside = inside_row traces at place in past_all traces.events at.thread (omega arith)

-- a place stands as before, unless it is the one that is added
elsewhere : (at other : Place) (stands : Place → Bool) → (at ≡ other → ⊥) → standing_too at stands other ≡ stands other
elsewhere at other stands apart = elim (cases_place at other) [
  | inl same ↦ absurd (apart same.0)
  | inr differ ↦ let test : same_place at other ≡ false = differ.1 in rw test refl
]

added : (at : Place) (stands : Place → Bool) → standing_too at stands at ≡ true
added at stands = elim (cases_place at at) [
  | inl same ↦ let test : same_place at at ≡ true = same.1 in rw test refl
  | inr differ ↦ absurd (differ.0 refl)
]

-- of another thread as many are left
other_thread : (traces : TraceLists) (at : Place) (stands : Place → Bool) (thread : ℕ) → thread ≢ at.thread → thread_left traces stands thread ≡ thread_left traces (standing_too at stands) thread
other_thread traces at stands thread apart =
    upto_same (unstood stands thread) (unstood (standing_too at stands) thread) (length (events_of traces thread))
    (λ i small. ap (λ (b : Bool). if b then 0 else 1) (sym (elsewhere at (at_place thread i) stands (λ e. apart (sym (ap (λ (p : Place). p.thread) e))))))

-- of its own thread one fewer is left
own_thread : (traces : TraceLists) (at : Place) (stands : Place → Bool) → IsPlace traces at → stands at ≡ false → thread_left traces stands at.thread ≡ thread_left traces (standing_too at stands) at.thread + 1
own_thread traces at stands place down =
    let one = upto_one (unstood stands at.thread) (unstood (standing_too at stands) at.thread) (length (events_of traces at.thread)) at.place (inside_row traces at place)
    (λ i apart. ap (λ (b : Bool). if b then 0 else 1) (sym (elsewhere at (at_place at.thread i) stands (λ e. apart (sym (ap (λ (p : Place). p.place) e)))))) in
    let before : unstood stands at.thread at.place ≡ 1 = ap (λ (b : Bool). if b then 0 else 1) down in
    let after : unstood (standing_too at stands) at.thread at.place ≡ 0 = ap (λ (b : Bool). if b then 0 else 1) (added at stands) in
    omega (arith, one, before, after)

-- with one place more that stands, one fewer is left
one_less : (traces : TraceLists) (at : Place) (stands : Place → Bool) → IsPlace traces at → stands at ≡ false → left traces stands ≡ left traces (standing_too at stands) + 1
one_less traces at stands place down =
    let one = upto_one (thread_left traces stands) (thread_left traces (standing_too at stands)) (length traces.events) at.thread (inside_all traces at place)
    (λ thread apart. other_thread traces at stands thread apart) in
    let own = own_thread traces at stands place down in
    omega (arith, one, own)

-- a sum of nothing
upto_none : (f : ℕ → ℕ) (n : ℕ) → ((i : ℕ) → i < n → f i ≡ 0) → upto f n ≡ 0
upto_none f zero none = refl
upto_none f (suc n) none =
    let rest : upto f n ≡ 0 = upto_none f n (λ i small. none i (omega arith)) in
    let last : f n ≡ 0 = none n (omega arith) in
    omega arith

found_place : (events : List Event) (i : ℕ) → i < length events → is_some (slice_get events i) ≡ true
found_place [] i small = absurd (omega arith)
found_place (e ∷ es) zero small = refl
found_place (e ∷ es) (suc i) small = found_place es i (omega arith)

-- where each event stands, none is left
none_left : (traces : TraceLists) (stands : Place → Bool) → ((at : Place) → IsPlace traces at → stands at ≡ true) → left traces stands ≡ 0
none_left traces stands all =
    upto_none (thread_left traces stands) (length traces.events) (λ thread inside.
    upto_none (unstood stands thread) (length (events_of traces thread)) (λ i small.
    ap (λ (b : Bool). if b then 0 else 1) (all (at_place thread i) (found_place (events_of traces thread) i small))))

-- what goes on from what stands has as many members as places are left
as_many : (traces : TraceLists) (links : LinkRows) (stands : Place → Bool) (places : List Place) → Extends traces links stands places → length places ≡ left traces stands
as_many traces links stands [] extends = sym (none_left traces stands extends)
as_many traces links stands (at ∷ rest) extends =
    let others = as_many traces links (standing_too at stands) rest extends.3 in
    let one = one_less traces at stands extends.0 extends.1 in
    omega (arith, others, one)

upto_ones : (n : ℕ) → upto (λ i. 1) n ≡ n
upto_ones zero = refl
upto_ones (suc n) = let rest = upto_ones n in omega arith

-- a sum from the other end
upto_first : (f : ℕ → ℕ) (n : ℕ) → upto f (suc n) ≡ f 0 + upto (λ i. f (suc i)) n
upto_first f zero = omega arith
upto_first f (suc n) = let rest = upto_first f n in omega (arith, rest)

-- the lengths of all rows
upto_lengths : (rows : List (List Event)) → upto (λ t. length (get_or rows t [])) (length rows) ≡ sum_by length rows
upto_lengths [] = refl
upto_lengths (row ∷ rows) =
    let f : ℕ → ℕ = λ t. length (get_or (row ∷ rows) t []) in
    let more : length (row ∷ rows) ≡ suc (length rows) = omega arith in
    ap (upto f) more ∙ (upto_first f (length rows) ∙ (ap (λ n. length row + n) (upto_lengths rows) ∙ sym (sum_by-cons length row rows)))

pub extensions_are_whole : ExtensionsAreWhole
extensions_are_whole traces links places is =
    let nothing : Place → Bool = λ at. false in
    let each : left traces nothing ≡ upto (λ t. length (events_of traces t)) (length traces.events) =
    upto_same (thread_left traces nothing) (λ t. length (events_of traces t)) (length traces.events) (λ t small. upto_ones (length (events_of traces t))) in
    as_many traces links nothing places is ∙ (each ∙ upto_lengths traces.events)

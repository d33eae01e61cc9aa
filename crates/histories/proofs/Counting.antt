-- What numbers and monitors' words count.
use Rattle.std.proofs.Common.{◌≡◌, ◌≢◌, ℕ, zero, suc, ◌+◌, ◌*◌, ◌/◌, ◌==◌, ◌<◌, ◌≤◌, Bool, true, false, cond, if◌then◌else◌, List, [], ◌∷◌, ◌++◌, count_by, sum_by, Option, Some, None, refl, sym, ◌∙◌, ap, subst, inl, inr, arith}
use Rattle.std.specs.List.{range_with_len}
use Rattle.std.proofs.lemmas.Bool.{cond_both, cond-true, cond-false, eqb-true, eqb-false, eq-eqb, ne_eqb, cases_eq}
use Rattle.std.proofs.lemmas.List.Sums.{sum_by-cons, sum_by_push}
use prog.Atomic.{either}
use Rattle.interleavings.specs.declared.activity.Activity.{Activity}
use Rattle.interleavings.specs.declared.activity.Phase.{Phase}
use Rattle.interleavings.specs.declared.activity.Phase.TheVariants.{Idle, Loaded, Numbered, Marked, Fetched, Stored, Looked}
use Rattle.interleavings.specs.declared.event.Event.{Event}
use Rattle.interleavings.specs.declared.event.Event.TheVariants as events
use Rattle.interleavings.specs.declared.kind.Kind.{Kind}
use Rattle.interleavings.specs.declared.kind.Kind.TheVariants as by
use Rattle.interleavings.specs.AtomicStep.{SharedWord, Number, Monitor, word_of, Begins, is_even, word_after, read_if, entered_if, finished_by, with_event}
use Rattle.interleavings.specs.History.{Person, State, Step, put_word, person_after, happens, after, IsHistory}
use Rattle.histories.specs.Chronicle.{Entries, Exits, number_if, claim_of, share}
use Rattle.histories.specs.Facts.{enters, passing, writes}
use Rattle.histories.specs.Laws.{NumbersCountWrites, TurnsCountEntries}
use Rattle.histories.proofs.CellMoves.{number_back, claimed_odd}
use Rattle.histories.proofs.Chronicles.{chronicles}
use Rattle.histories.proofs.MonitorMoves.{MonitorMoves, monitor_moves}
use Rattle.histories.proofs.Notes.{adds, count_if}
use Rattle.histories.proofs.Ownership.{even_half, odd_half, owner_at}

-- an event, if there is one, doesn't pass the test
abbrev IsQuiet : (Event → Bool) → Option Event → Type 0
IsQuiet test None = Unit {0}
IsQuiet test (Some event) = test event ≡ false

quiet : (test : Event → Bool) (done : List Event) (new : Option Event) → IsQuiet test new → count_by test (with_event done new) ≡ count_by test done
quiet test done None is = refl
quiet test done (Some event) is = omega (arith, sum_by_push (λ x. cond (test x) 1 0) done event, cond-false {A = ℕ} (test event) 1 0 is)

pushed : (test : Event → Bool) (done : List Event) (event : Event) (b : Bool) → test event ≡ b → count_by test (done ++ event ∷ []) ≡ count_if b (count_by test done)
pushed test done event true is = omega (arith, sum_by_push (λ x. cond (test x) 1 0) done event, cond-true {A = ℕ} (test event) 1 0 is)
pushed test done event false is = quiet test done (Some event) is

quiet_read : (cell a v bound : ℕ) (b : Bool) → IsQuiet (writes cell) (read_if b (Loaded a v) bound)
quiet_read cell a v bound true = refl
quiet_read cell a v bound false = tt

quiet_entry : (cell at turn : ℕ) (b : Bool) → IsQuiet (writes cell) (entered_if b at turn)
quiet_entry cell at turn true = refl
quiet_entry cell at turn false = tt

-- a finished write raises half of the number, and nothing else does
abbrev WriteCounts : ℕ → List Event → Option Event → ℕ → ℕ → Type 0
WriteCounts cell done new w w' = count_by (writes cell) (with_event done new) + w / 2 ≡ count_by (writes cell) done + w' / 2

claims_count : (words : SharedWord → ℕ) (cell at n : ℕ) (b : Bool) → (words (Number at) == 2 * n) ≡ b → words (Number cell) / 2 ≡ put_word words (Number at) (either b (2 * n + 1) (words (Number at))) (Number cell) / 2
claims_count words cell at n false e = ap (λ x. x / 2) (sym (number_back words cell at))
claims_count words cell at n true e = cond_both (cell == at) (2 * n + 1) (words (Number cell)) (λ x. words (Number cell) / 2 ≡ x / 2)
    (λ same. (let met : words (Number cell) ≡ 2 * n = ap (λ x. words (Number x)) (eqb-true cell at same) ∙ eqb-true (words (Number at)) (2 * n) e in omega arith)) (λ other. refl)

completes_count : (cell a n w : ℕ) (own : Bool) (done : List Event) (event : Event) → writes cell event ≡ (a == cell) → number_if (cell == a) (n + 1) ≡ share (is_even w) own ((w + 1) / 2) → count_by (writes cell) (done ++ event ∷ []) + w / 2 ≡ count_by (writes cell) done + (if cell == a then 2 * n + 2 else w) / 2
completes_count cell a n w own done event is claim = elim (cases_eq cell a) [
  | inl same ↦
      let more = pushed (writes cell) done event true (is ∙ eq-eqb a cell (sym same)) in
      let next = claimed_odd (is_even w) own w n ((w + 1) / 2) (odd_half w) refl refl (sym (ap (λ b. number_if b (n + 1)) (eq-eqb cell a same)) ∙ claim) in
      let word : (if cell == a then 2 * n + 2 else w) ≡ 2 * n + 2 = cond-true (cell == a) (2 * n + 2) w (eq-eqb cell a same) in
      omega arith
  | inr other ↦
      let more = pushed (writes cell) done event false (is ∙ ne_eqb a cell (λ e. other (sym e))) in
      let word : (if cell == a then 2 * n + 2 else w) ≡ w = cond-false (cell == a) (2 * n + 2) w (ne_eqb cell a other) in
      omega arith
]

-- by the step's kind and the phase
writes_count : (words : SharedWord → ℕ) (cell : ℕ) (own : Bool) (kind : Kind) (at value : ℕ) (activity : Activity) (phase : Phase) → Begins kind at phase → claim_of cell phase ≡ share (is_even (words (Number cell))) own ((words (Number cell) + 1) / 2) → WriteCounts cell activity.events (finished_by kind at (record activity { phase = phase }) (words (word_of kind at))) (words (Number cell)) (put_word words (word_of kind at) (word_after kind at value (record activity { phase = phase }) (words (word_of kind at))) (Number cell))
writes_count words cell own by.ValueLoad at value activity Idle begins claim = refl
writes_count words cell own by.NumberLoad at value activity (Loaded a v) begins claim =
    let same = quiet (writes cell) activity.events (read_if (is_even (words (Number at))) (Loaded a v) (words (Number at) / 2)) (quiet_read cell a v (words (Number at) / 2) (is_even (words (Number at)))) in
    omega (arith, number_back words cell at)
writes_count words cell own by.SeeNumber at value activity Idle begins claim = omega (arith, number_back words cell at)
writes_count words cell own by.Claim at value activity (Numbered a n) begins claim = omega (arith, claims_count words cell at n (words (Number at) == 2 * n) refl)
writes_count words cell own by.Fetch at value activity (Marked a n) begins claim = refl
writes_count words cell own by.Put at value activity (Marked a n) begins claim = refl
writes_count words cell own by.Put at value activity (Fetched a n old) begins claim = refl
writes_count words cell own by.Complete at value activity (Stored a n None v) begins claim =
    subst (λ (x : ℕ). WriteCounts cell activity.events (Some (events.Write a v (n + 1))) (words (Number cell)) (if cell == x then 2 * n + 2 else words (Number cell))) (sym begins)
    (completes_count cell a n (words (Number cell)) own activity.events (events.Write a v (n + 1)) refl claim)
writes_count words cell own by.Complete at value activity (Stored a n (Some old) v) begins claim =
    subst (λ (x : ℕ). WriteCounts cell activity.events (Some (events.Update a old v (n + 1))) (words (Number cell)) (if cell == x then 2 * n + 2 else words (Number cell))) (sym begins)
    (completes_count cell a n (words (Number cell)) own activity.events (events.Update a old v (n + 1)) refl claim)
writes_count words cell own by.Look at value activity Idle begins claim = refl
writes_count words cell own by.Enter at value activity (Looked m turn) begins claim =
    let same = quiet (writes cell) activity.events (entered_if (words (Monitor at) == 2 * turn) at (turn + 1)) (quiet_entry cell at (turn + 1) (words (Monitor at) == 2 * turn)) in
    omega arith
writes_count words cell own by.Leave at value activity Idle begins claim =
    let same = quiet (writes cell) activity.events (finished_by by.Leave at activity (words (Monitor at))) refl in
    omega arith
writes_count words cell own by.Draw at value activity Idle begins claim = refl
writes_count words cell own kind at value activity phase begins claim = absurd begins

entered_count : (monitor at turn : ℕ) (done : List Event) (b : Bool) → count_by (enters monitor) (with_event done (entered_if b at turn)) ≡ count_if (if b then monitor == at else false) (count_by (enters monitor) done)
entered_count monitor at turn done true = elim (cases_eq monitor at) [
  | inl same ↦ pushed (enters monitor) done (events.Enter at turn) true (eq-eqb at monitor (sym same)) ∙ ap (λ b. count_if b (count_by (enters monitor) done)) (sym (eq-eqb monitor at same))
  | inr other ↦ pushed (enters monitor) done (events.Enter at turn) false (ne_eqb at monitor (λ e. other (sym e))) ∙ ap (λ b. count_if b (count_by (enters monitor) done)) (sym (ne_eqb monitor at other))
]
entered_count monitor at turn done false = refl

quiet_read_in : (monitor a v bound : ℕ) (b : Bool) → IsQuiet (enters monitor) (read_if b (Loaded a v) bound)
quiet_read_in monitor a v bound true = refl
quiet_read_in monitor a v bound false = tt

-- the events that enter a monitor are those of the steps that begin a turn
entries_count : (kind : Kind) (at monitor met : ℕ) (activity : Activity) (phase : Phase) → Begins kind at phase → count_by (enters monitor) (with_event activity.events (finished_by kind at (record activity { phase = phase }) met)) ≡ count_if (adds kind at phase met (Entries monitor)) (count_by (enters monitor) activity.events)
entries_count by.ValueLoad at monitor met activity Idle begins = refl
entries_count by.NumberLoad at monitor met activity (Loaded a v) begins = quiet (enters monitor) activity.events (read_if (is_even met) (Loaded a v) (met / 2)) (quiet_read_in monitor a v (met / 2) (is_even met))
entries_count by.SeeNumber at monitor met activity Idle begins = refl
entries_count by.Claim at monitor met activity (Numbered a n) begins = refl
entries_count by.Fetch at monitor met activity (Marked a n) begins = refl
entries_count by.Put at monitor met activity (Marked a n) begins = refl
entries_count by.Put at monitor met activity (Fetched a n old) begins = refl
entries_count by.Complete at monitor met activity (Stored a n None v) begins = quiet (enters monitor) activity.events (Some (events.Write a v (n + 1))) refl
entries_count by.Complete at monitor met activity (Stored a n (Some old) v) begins = quiet (enters monitor) activity.events (Some (events.Update a old v (n + 1))) refl
entries_count by.Look at monitor met activity Idle begins = refl
entries_count by.Enter at monitor met activity (Looked m turn) begins = entered_count monitor at (turn + 1) activity.events (met == 2 * turn)
entries_count by.Leave at monitor met activity Idle begins = quiet (enters monitor) activity.events (finished_by by.Leave at activity met) refl
entries_count by.Draw at monitor met activity Idle begins = refl
entries_count kind at monitor met activity phase begins = absurd begins

turn_counts : (enters exits own : Bool) (w w' count : ℕ) (has has' : Option ℕ) → MonitorMoves enters exits w w' has has' → has ≡ share (is_even w) own ((w + 1) / 2) → count_if enters count + (w + 1) / 2 ≡ count + (w' + 1) / 2
turn_counts enters exits own w w' count has has' (inl same) is = omega (arith, ap (λ b. count_if b count) same.2.0, same.0)
turn_counts enters exits own w w' count has has' (inr (inl taken)) is = (let even = even_half w taken.0 in omega (arith, ap (λ b. count_if b count) taken.3.0, taken.1))
turn_counts enters exits own w w' count has has' (inr (inr given)) is =
    let odd = odd_half w (owner_at (is_even w) own ((w + 1) / 2) has is given.0).0 in
    omega (arith, ap (λ b. count_if b count) given.3.0, given.1)

module _ (f f' : ℕ → ℕ) (who : ℕ) (others : (t : ℕ) → t ≢ who → f' t ≡ f t) where
  sum_past : (a n : ℕ) → who < a → sum_by f' (range_with_len a n) ≡ sum_by f (range_with_len a n)
  sum_past a zero past = refl
  sum_past a (suc n) past =
      let rest = sum_past (a + 1) n (omega arith) in
      let first = others a (λ e. omega arith) in
      omega (arith, sum_by-cons f' a (range_with_len (a + 1) n), sum_by-cons f a (range_with_len (a + 1) n))

  -- where one thread's count changes, the sum changes as it does
  sum_one : (h h' a n : ℕ) → f' who + h ≡ f who + h' → a ≤ who → who < a + n → sum_by f' (range_with_len a n) + h ≡ sum_by f (range_with_len a n) + h'
  sum_one h h' a zero is from upto = absurd (omega arith)
  sum_one h h' a (suc n) is from upto = elim (cases_eq a who) [
    | inl same ↦
        let rest = sum_past (a + 1) n (omega arith) in
        omega (arith, sum_by-cons f' a (range_with_len (a + 1) n), sum_by-cons f a (range_with_len (a + 1) n), ap f same, ap f' same)
    | inr other ↦
        let rest = sum_one h h' (a + 1) n is (omega (arith, other)) (omega arith) in
        let first = others a other in
        omega (arith, sum_by-cons f' a (range_with_len (a + 1) n), sum_by-cons f a (range_with_len (a + 1) n))
  ]

-- the count of a thread, after a step
passing_after : (test : Event → Bool) (s : Step) (st : State) (threads h h' : ℕ) → s.who < threads → count_by test (with_event (st.people s.who).activity.events (finished_by s.kind s.at (st.people s.who).activity (st.words (word_of s.kind s.at)))) + h ≡ count_by test (st.people s.who).activity.events + h' → passing test threads (happens s st) + h ≡ passing test threads st + h'
passing_after test s st threads h h' less own =
    let f : ℕ → ℕ = λ t. count_by test (st.people t).activity.events in
    let f' : ℕ → ℕ = λ t. count_by test ((happens s st).people t).activity.events in
    sum_one f f' s.who
    (λ t differs. cond_both (t == s.who) (person_after s (st.people s.who) (st.words (word_of s.kind s.at))) (st.people t) (λ (p : Person). count_by test p.activity.events ≡ count_by test (st.people t).activity.events) (λ e. absurd (differs (eqb-true t s.who e))) (λ e. refl))
    h h' 0 threads
    (cond_both (s.who == s.who) (person_after s (st.people s.who) (st.words (word_of s.kind s.at))) (st.people s.who) (λ (p : Person). count_by test p.activity.events + h ≡ count_by test (st.people s.who).activity.events + h') (λ e. own) (λ e. absurd (eqb-false s.who s.who e refl)))
    (omega arith) (omega arith)

passing_start : (test : Event → Bool) (a n : ℕ) → sum_by (λ (t : ℕ). count_by test []) (range_with_len a n) ≡ 0
passing_start test a zero = refl
passing_start test a (suc n) = (let rest = passing_start test (a + 1) n in omega (arith, sum_by-cons (λ (t : ℕ). count_by test []) a (range_with_len (a + 1) n)))

pub numbers-count : NumbersCountWrites
unfolding after IsHistory
numbers-count starts [] threads cell lawful who = passing_start (writes cell) 0 threads
numbers-count starts (s ∷ steps) threads cell lawful who =
    let st : State = after starts steps in
    let c = chronicles starts steps lawful.1 in
    let before = numbers-count starts steps threads cell lawful.1 (λ x among. who x (inr among)) in
    let step = passing_after (writes cell) s st threads (st.words (Number cell) / 2) ((happens s st).words (Number cell) / 2) (who s (inl refl))
    (writes_count st.words cell (s.who == c.0.owner (Number cell)) s.kind s.at s.value (st.people s.who).activity (st.people s.who).activity.phase lawful.0.begins (c.1.claims cell s.who)) in
    omega arith

pub turns-count : TurnsCountEntries
unfolding after IsHistory
turns-count starts [] threads monitor lawful who = passing_start (enters monitor) 0 threads
turns-count starts (s ∷ steps) threads monitor lawful who =
    let st : State = after starts steps in
    let activity : Activity = (st.people s.who).activity in
    let met : ℕ = st.words (word_of s.kind s.at) in
    let c = chronicles starts steps lawful.1 in
    let before = turns-count starts steps threads monitor lawful.1 (λ x among. who x (inr among)) in
    let moves = monitor_moves st.words monitor (s.who == c.0.owner (Monitor monitor)) s.kind s.at s.value activity activity.phase lawful.0.begins lawful.0.suits (c.1.holds monitor s.who) in
    let own = turn_counts (adds s.kind s.at activity.phase met (Entries monitor)) (adds s.kind s.at activity.phase met (Exits monitor)) (s.who == c.0.owner (Monitor monitor)) (st.words (Monitor monitor)) ((happens s st).words (Monitor monitor)) (count_by (enters monitor) activity.events) _ _ moves (c.1.holds monitor s.who) in
    let step = passing_after (enters monitor) s st threads ((st.words (Monitor monitor) + 1) / 2) (((happens s st).words (Monitor monitor) + 1) / 2) (who s (inl refl))
    (ap (λ x. x + (st.words (Monitor monitor) + 1) / 2) (entries_count s.kind s.at monitor met activity activity.phase lawful.0.begins) ∙ own) in
    omega arith

-- Nothing falls, what was seen is past, and names stay.
use Rattle.std.proofs.Common.{◌≡◌, ℕ, ◌+◌, ◌*◌, ◌/◌, ◌==◌, ◌≤◌, max, Bool, true, false, if◌then◌else◌, List, [], ◌∷◌, ◌++◌, Option, Some, None, is_some, refl, sym, ◌∙◌, ap, subst, inl, inr, arith}
use Rattle.std.proofs.lemmas.Bool.{true≢false, false≢true, cond_both, cond-true, cond-false, eqb-true, eq-eqb, ne_eqb}
use Rattle.std.proofs.lemmas.Option.{none-some}
use Rattle.interleavings.specs.declared.activity.Activity.{Activity}
use Rattle.interleavings.specs.declared.activity.Phase.{Phase}
use Rattle.interleavings.specs.declared.activity.Phase.TheVariants.{Idle, Loaded, Numbered, Marked, Fetched, Stored, Looked}
use Rattle.interleavings.specs.declared.activity.SeenNumber.{SeenNumber}
use Rattle.interleavings.specs.declared.kind.Kind.{Kind}
use Rattle.interleavings.specs.declared.kind.Kind.TheVariants as by
use Rattle.interleavings.specs.AtomicStep.{SharedWord, Drawn, Number, Monitor, word_of, Begins, Suits, May, is_even, word_after, phase_if, phase_after, name_after, seen_if, seen_after}
use Rattle.interleavings.specs.History.{Person, State, Step, newcomer, greatest_seen, put_word, person_after, happens, after, IsHistory}
use Rattle.histories.specs.Chronicle.{Chronicle, IsChronicleOf}
use Rattle.histories.specs.Facts.{HasGrown, IsPhasePast, HasSeenPast}
use Rattle.histories.specs.Laws.{NothingFalls, WhatIsSeenIsPast, NamesStay, NamelessAreNewcomers, StrangersAreNewcomers}
use Rattle.histories.proofs.CellMoves.{cell_moves}
use Rattle.histories.proofs.Chronicles.{chronicles, each_person}
use Rattle.histories.proofs.MonitorMoves.{monitor_moves}
use Rattle.histories.proofs.Ownership.{Moves}

moves_up : (Same Taken Given : Type 0) (w w' : ℕ) (has has' : Option ℕ) → Moves Same Taken Given w w' has has' → w ≤ w'
moves_up Same Taken Given w w' has has' (inl same) = omega (arith, same.0)
moves_up Same Taken Given w w' has has' (inr (inl taken)) = omega (arith, taken.1)
moves_up Same Taken Given w w' has has' (inr (inr given)) = omega (arith, given.1)

names_up : (words : SharedWord → ℕ) (kind : Kind) (at value : ℕ) (activity : Activity) → words Drawn ≤ put_word words (word_of kind at) (word_after kind at value activity (words (word_of kind at))) Drawn
names_up words by.Draw at value activity = omega arith
names_up words kind at value activity = omega arith

-- by one step
pub step_grows : (starts : List ℕ) (s : Step) (st : State) (c : Chronicle) → IsChronicleOf starts st c → May s.kind s.at (st.people s.who).activity → HasGrown st (happens s st)
step_grows starts s st c is may =
    let activity : Activity = (st.people s.who).activity in
    record {
      names = names_up st.words s.kind s.at s.value activity;
      numbers = λ cell. moves_up _ _ _ _ _ _ _ (cell_moves st.words cell (s.who == c.owner (Number cell)) s.kind s.at s.value activity activity.phase may.begins (is.claims cell s.who));
      turns = λ monitor. moves_up _ _ _ _ _ _ _ (monitor_moves st.words monitor (s.who == c.owner (Monitor monitor)) s.kind s.at s.value activity activity.phase may.begins may.suits (is.holds monitor s.who));
    }

pub nothing-falls : NothingFalls
unfolding after IsHistory
nothing-falls starts [] steps lawful = record { names = omega arith; numbers = λ cell. omega arith; turns = λ monitor. omega arith }
nothing-falls starts (s ∷ more) steps lawful =
    let before = nothing-falls starts more steps lawful.1 in
    let c = chronicles starts (more ++ steps) lawful.1 in
    let step = step_grows starts s (after starts (more ++ steps)) c.0 c.1 lawful.0 in
    record {
      names = omega (arith, before.names, step.names);
      numbers = λ cell. omega (arith, before.numbers cell, step.numbers cell);
      turns = λ monitor. omega (arith, before.turns monitor, step.turns monitor);
    }

one_seen : (at cell k greatest limit : ℕ) → (at ≡ cell → k ≤ limit) → greatest ≤ limit → max (if at == cell then k else 0) greatest ≤ limit
one_seen at cell k greatest limit here others = cond_both (at == cell) k 0 (λ x. max x greatest ≤ limit) (λ e. omega (arith, here (eqb-true at cell e))) (λ e. omega arith)

seen_where : (b : Bool) (at cell k limit : ℕ) (seen : List SeenNumber) → (at ≡ cell → k ≤ limit) → greatest_seen cell seen ≤ limit → greatest_seen cell (seen_if b (record { cell = at; number = k }) seen) ≤ limit
seen_where true at cell k limit seen here others = one_seen at cell k (greatest_seen cell seen) limit here others
seen_where false at cell k limit seen here others = others

-- the thread that makes a step, by the kind and the phase
own_seen : (words words' : SharedWord → ℕ) (cell : ℕ) (kind : Kind) (at value : ℕ) (activity : Activity) (phase : Phase) (seen : List SeenNumber) → Begins kind at phase → words' (Number cell) ≡ put_word words (word_of kind at) (word_after kind at value (record activity { phase = phase }) (words (word_of kind at))) (Number cell) → words (Number cell) ≤ words' (Number cell) → greatest_seen cell seen ≤ words (Number cell) / 2 → greatest_seen cell (seen_after kind at phase seen (words (word_of kind at))) ≤ words' (Number cell) / 2
own_seen words words' cell by.NumberLoad at value activity phase seen begins is grown past =
    seen_where (is_even (words (Number at))) at cell (words (Number at) / 2) (words' (Number cell) / 2) seen (λ same. omega (arith, ap (λ x. words (Number x)) same)) (omega arith)
own_seen words words' cell by.Complete at value activity (Stored a n old v) seen begins is grown past =
    one_seen at cell (n + 1) (greatest_seen cell seen) (words' (Number cell) / 2)
    (λ same. omega (arith, is ∙ cond-true (cell == at) (2 * n + 2) (words (Number cell)) (eq-eqb cell at (sym same)))) (omega arith)
own_seen words words' cell by.Complete at value activity phase seen begins is grown past = absurd begins
own_seen words words' cell kind at value activity phase seen begins is grown past = omega arith

past_if : (words : SharedWord → ℕ) (b : Bool) (phase other : Phase) → IsPhasePast words phase → IsPhasePast words other → IsPhasePast words (phase_if b phase other)
past_if words true phase other p q = p
past_if words false phase other p q = q

own_past : (words words' : SharedWord → ℕ) (kind : Kind) (at value : ℕ) (phase : Phase) → Begins kind at phase → ((cell : ℕ) → words (Number cell) ≤ words' (Number cell)) → ((monitor : ℕ) → words (Monitor monitor) ≤ words' (Monitor monitor)) → IsPhasePast words' (phase_after kind at value phase (words (word_of kind at)))
own_past words words' by.ValueLoad at value Idle begins numbers turns = tt
own_past words words' by.NumberLoad at value (Loaded a v) begins numbers turns = past_if words' (is_even (words (Number at))) Idle (Loaded a v) tt tt
own_past words words' by.SeeNumber at value Idle begins numbers turns = past_if words' (is_even (words (Number at))) (Numbered at (words (Number at) / 2)) Idle (omega (arith, numbers at)) tt
own_past words words' by.Claim at value (Numbered a n) begins numbers turns = past_if words' (words (Number at) == 2 * n) (Marked a n) Idle tt tt
own_past words words' by.Fetch at value (Marked a n) begins numbers turns = tt
own_past words words' by.Put at value (Marked a n) begins numbers turns = tt
own_past words words' by.Put at value (Fetched a n old) begins numbers turns = tt
own_past words words' by.Complete at value (Stored a n old v) begins numbers turns = tt
own_past words words' by.Look at value Idle begins numbers turns = past_if words' (is_even (words (Monitor at))) (Looked at (words (Monitor at) / 2)) Idle (omega (arith, turns at)) tt
own_past words words' by.Enter at value (Looked m turn) begins numbers turns = tt
own_past words words' by.Leave at value Idle begins numbers turns = tt
own_past words words' by.Draw at value Idle begins numbers turns = tt
own_past words words' kind at value phase begins numbers turns = absurd begins

others_past : (words words' : SharedWord → ℕ) (phase : Phase) → ((cell : ℕ) → words (Number cell) ≤ words' (Number cell)) → ((monitor : ℕ) → words (Monitor monitor) ≤ words' (Monitor monitor)) → IsPhasePast words phase → IsPhasePast words' phase
others_past words words' Idle numbers turns past = tt
others_past words words' (Loaded a v) numbers turns past = tt
others_past words words' (Numbered a n) numbers turns past = omega (arith, numbers a)
others_past words words' (Marked a n) numbers turns past = tt
others_past words words' (Fetched a n old) numbers turns past = tt
others_past words words' (Stored a n old v) numbers turns past = tt
others_past words words' (Looked m turn) numbers turns past = omega (arith, turns m)

step_seen : (s : Step) (st : State) → May s.kind s.at (st.people s.who).activity → HasGrown st (happens s st) → ((t : ℕ) → HasSeenPast st t) → (t : ℕ) → HasSeenPast (happens s st) t
step_seen s st may grown past t =
    let st' : State = happens s st in
    let activity : Activity = (st.people s.who).activity in
    let both = each_person (λ t p. ((cell : ℕ) → greatest_seen cell p.seen ≤ st'.words (Number cell) / 2) × IsPhasePast st'.words p.activity.phase) st.people s.who (person_after s (st.people s.who) (st.words (word_of s.kind s.at)))
    ((λ cell. own_seen st.words st'.words cell s.kind s.at s.value activity activity.phase (st.people s.who).seen may.begins refl (grown.numbers cell) ((past s.who).seen cell)), own_past st.words st'.words s.kind s.at s.value activity.phase may.begins grown.numbers grown.turns)
    (λ t differs. ((λ cell. omega (arith, grown.numbers cell, (past t).seen cell)), others_past st.words st'.words (st.people t).activity.phase grown.numbers grown.turns (past t).phase)) in
    record { seen = (both t).0; phase = (both t).1 }

pub seen-past : WhatIsSeenIsPast
unfolding after IsHistory
seen-past starts [] t lawful = record { seen = λ cell. omega arith; phase = tt }
seen-past starts (s ∷ steps) t lawful =
    let c = chronicles starts steps lawful.1 in
    step_seen s (after starts steps) lawful.0 (step_grows starts s (after starts steps) c.0 c.1 lawful.0) (λ u. seen-past starts steps u lawful.1) t

own_name : (kind : Kind) (at : ℕ) (activity : Activity) (met name : ℕ) → Suits kind at activity → activity.name ≡ Some name → name_after kind activity.name met ≡ Some name
own_name by.Draw at activity met name suits is = absurd (true≢false (sym (ap is_some is) ∙ suits))
own_name kind at activity met name suits is = is

pub names-stay : NamesStay
unfolding after IsHistory
names-stay starts [] steps t name lawful is = is
names-stay starts (s ∷ more) steps t name lawful is =
    let st : State = after starts (more ++ steps) in
    each_person (λ t p. (st.people t).activity.name ≡ Some name → p.activity.name ≡ Some name) st.people s.who (person_after s (st.people s.who) (st.words (word_of s.kind s.at)))
    (λ had. own_name s.kind s.at (st.people s.who).activity (st.words (word_of s.kind s.at)) name lawful.0.suits had)
    (λ t differs had. had)
    t (names-stay starts more steps t name lawful.1 is)

-- no step leaves its thread without a name
own_named : (kind : Kind) (at : ℕ) (person : Person) (met : ℕ) → Begins kind at person.activity.phase → Suits kind at person.activity → (person.activity.name ≡ None → person ≡ newcomer) → name_after kind person.activity.name met ≡ None → ⊥
own_named by.ValueLoad at person met begins suits new none = true≢false (sym suits ∙ ap is_some none)
own_named by.NumberLoad at person met begins suits new none = subst (λ (p : Person). Begins by.NumberLoad at p.activity.phase) (new none) begins
own_named by.SeeNumber at person met begins suits new none = true≢false (sym suits ∙ ap is_some none)
own_named by.Claim at person met begins suits new none = subst (λ (p : Person). Begins by.Claim at p.activity.phase) (new none) begins
own_named by.Fetch at person met begins suits new none = subst (λ (p : Person). Begins by.Fetch at p.activity.phase) (new none) begins
own_named by.Put at person met begins suits new none = subst (λ (p : Person). Begins by.Put at p.activity.phase) (new none) begins
own_named by.Complete at person met begins suits new none = subst (λ (p : Person). Begins by.Complete at p.activity.phase) (new none) begins
own_named by.Look at person met begins suits new none = true≢false (sym suits ∙ ap is_some none)
own_named by.Enter at person met begins suits new none = subst (λ (p : Person). Begins by.Enter at p.activity.phase) (new none) begins
own_named by.Leave at person met begins suits new none = false≢true (subst (λ (p : Person). Suits by.Leave at p.activity) (new none) suits)
own_named by.Draw at person met begins suits new none = none-some met (sym none)

pub nameless-newcomers : NamelessAreNewcomers
unfolding after IsHistory
nameless-newcomers starts [] t lawful none = refl
nameless-newcomers starts (s ∷ steps) t lawful none =
    let st : State = after starts steps in
    each_person (λ t p. p.activity.name ≡ None → p ≡ newcomer) st.people s.who (person_after s (st.people s.who) (st.words (word_of s.kind s.at)))
    (λ none. absurd (own_named s.kind s.at (st.people s.who) (st.words (word_of s.kind s.at)) lawful.0.begins lawful.0.suits (nameless-newcomers starts steps s.who lawful.1) none))
    (λ t differs none. nameless-newcomers starts steps t lawful.1 none)
    t none

pub strangers-newcomers : StrangersAreNewcomers
unfolding after
strangers-newcomers starts [] t none = refl
strangers-newcomers starts (s ∷ steps) t none = cond-false (t == s.who) _ ((after starts steps).people t) (ne_eqb t s.who (λ e. none s (inl refl) (sym e))) ∙ strangers-newcomers starts steps t (λ x among. none x (inr among))

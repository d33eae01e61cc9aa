-- The numbers of a history are bounded by its length.
use Rattle.std.proofs.Common.{◌≡◌, ℕ, suc, ◌+◌, ◌*◌, ◌/◌, ◌≤◌, ◌==◌, Bool, true, false, if◌then◌else◌, not, List, [], ◌∷◌, length, filter, Option, Some, None, refl, sym, ap, subst, arith}
use prog.Atomic.{either}
use Rattle.interleavings.specs.declared.activity.Activity.{Activity}
use Rattle.interleavings.specs.declared.activity.HeldTurn.{HeldTurn}
use Rattle.interleavings.specs.declared.activity.OddLooks.{OddLooks}
use Rattle.interleavings.specs.declared.activity.Phase.{Phase}
use Rattle.interleavings.specs.declared.activity.Phase.TheVariants.{Idle, Loaded, Numbered, Marked, Fetched, Looked}
use Rattle.interleavings.specs.declared.kind.Kind.{Kind}
use Rattle.interleavings.specs.declared.kind.Kind.TheVariants as by
use Rattle.interleavings.specs.AtomicStep.{SharedWord, Drawn, Value, Number, Monitor, word_of, word_after, phase_after, phase_if, held_after, held_if, marked, fetched, stored, number_in, turn_in, held_turn, turn_or_zero, is_even, one_more, looked, looks_after}
use Rattle.interleavings.specs.History.{Person, State, Step, same_word, start_state, person_after, happens, after}
use Rattle.interleavings.specs.Bounded.{IsWordWithin, IsPhaseWithin, AreTurnsWithin, AreLooksWithin, IsActivityWithin, IsStateWithin}

-- words with the same name are one
pub same_word_tells : (word other : SharedWord) → same_word word other ≡ true → word ≡ other
same_word_tells Drawn Drawn e = refl
same_word_tells (Value cell) (Value other) e = ap Value (grind (arith, e))
same_word_tells (Number cell) (Number other) e = ap Number (grind (arith, e))
same_word_tells (Monitor monitor) (Monitor other) e = ap Monitor (grind (arith, e))
same_word_tells word other e = cc

held_turn_within : (n monitor : ℕ) (held : List HeldTurn) → AreTurnsWithin n held → turn_or_zero (held_turn monitor held) ≤ n
held_turn_within n monitor [] w = omega arith
held_turn_within n monitor (h ∷ held) w =
    elim (h.mon == monitor) as (λ b. turn_or_zero (if b then Some h.turn else held_turn monitor held) ≤ n) [ true ↦ w.0 | false ↦ held_turn_within n monitor held w.1 ]

either_within : (b : Bool) (x y n : ℕ) → x ≤ n → y ≤ n → either b x y ≤ n
either_within true x y n p q = p
either_within false x y n p q = q

-- the word that a step leaves
word_within : (kind : Kind) (at value n : ℕ) (activity : Activity) (met : ℕ) → IsWordWithin n (word_of kind at) met → IsActivityWithin n activity → IsWordWithin (suc n) (word_of kind at) (word_after kind at value activity met)
word_within by.ValueLoad at value n activity met w a = tt
word_within by.NumberLoad at value n activity met w a = omega arith
word_within by.SeeNumber at value n activity met w a = omega arith
word_within by.Claim at value n activity met w a =
    either_within (met == 2 * number_in activity.phase) (2 * number_in activity.phase + 1) met (2 * suc n + 1) (omega (arith, a.phase.number)) (omega arith)
word_within by.Fetch at value n activity met w a = tt
word_within by.Put at value n activity met w a = tt
word_within by.Complete at value n activity met w a = omega (arith, a.phase.number)
word_within by.Look at value n activity met w a = omega arith
word_within by.Enter at value n activity met w a =
    either_within (met == 2 * turn_in activity.phase) (2 * turn_in activity.phase + 1) met (2 * suc n + 1) (omega (arith, a.phase.turn)) (omega arith)
word_within by.Leave at value n activity met w a = omega (arith, held_turn_within n at activity.held a.held)
word_within by.Draw at value n activity met w a = omega arith

pub word_wider : (word : SharedWord) (n m value : ℕ) → n ≤ m → IsWordWithin n word value → IsWordWithin m word value
word_wider Drawn n m value le w = omega arith
word_wider (Value cell) n m value le w = tt
word_wider (Number cell) n m value le w = omega arith
word_wider (Monitor monitor) n m value le w = omega arith

phase_wider : (n m : ℕ) (phase : Phase) → n ≤ m → IsPhaseWithin n phase → IsPhaseWithin m phase
phase_wider n m phase le w = record { number = omega (arith, w.number); turn = omega (arith, w.turn) }

turns_wider : (n m : ℕ) (held : List HeldTurn) → n ≤ m → AreTurnsWithin n held → AreTurnsWithin m held
turns_wider n m [] le w = tt
turns_wider n m (h ∷ held) le w = (omega (arith, w.0), turns_wider n m held le w.1)

phase_if_within : (n : ℕ) (b : Bool) (phase other : Phase) → IsPhaseWithin n phase → IsPhaseWithin n other → IsPhaseWithin n (phase_if b phase other)
phase_if_within n true phase other p q = p
phase_if_within n false phase other p q = q

marked_within : (n : ℕ) (phase : Phase) → IsPhaseWithin n phase → IsPhaseWithin n (marked phase)
marked_within n (Numbered cell number) w = record { number = w.number; turn = omega arith }
marked_within n phase w = w

stored_within : (n value : ℕ) (phase : Phase) → IsPhaseWithin n phase → IsPhaseWithin n (stored value phase)
stored_within n value (Marked cell number) w = record { number = w.number; turn = omega arith }
stored_within n value (Fetched cell number old) w = record { number = w.number; turn = omega arith }
stored_within n value phase w = w

fetched_within : (n old : ℕ) (phase : Phase) → IsPhaseWithin n phase → IsPhaseWithin n (fetched old phase)
fetched_within n old (Marked cell number) w = record { number = w.number; turn = omega arith }
fetched_within n old phase w = w

half_within : (n met : ℕ) → met ≤ 2 * n + 1 → met / 2 ≤ suc n
half_within n met w = omega arith

none_within : (n : ℕ) (phase : Phase) → number_in phase ≡ 0 → turn_in phase ≡ 0 → IsPhaseWithin n phase
none_within n phase p q = record { number = omega (arith, p); turn = omega (arith, q) }

idle_within : (n : ℕ) → IsPhaseWithin n Idle
idle_within n = none_within n Idle refl refl

phase_within : (kind : Kind) (at value n : ℕ) (phase : Phase) (met : ℕ) → IsWordWithin n (word_of kind at) met → IsPhaseWithin n phase → IsPhaseWithin (suc n) (phase_after kind at value phase met)
phase_within by.ValueLoad at value n phase met w p = none_within (suc n) (Loaded at met) refl refl
phase_within by.NumberLoad at value n phase met w p = phase_if_within (suc n) (is_even met) Idle phase (idle_within (suc n)) (phase_wider n (suc n) phase (omega arith) p)
phase_within by.SeeNumber at value n phase met w p = phase_if_within (suc n) (is_even met) (Numbered at (met / 2)) Idle (record { number = half_within n met w; turn = omega arith }) (idle_within (suc n))
phase_within by.Claim at value n phase met w p = phase_if_within (suc n) (met == 2 * number_in phase) (marked phase) Idle (marked_within (suc n) phase (phase_wider n (suc n) phase (omega arith) p)) (idle_within (suc n))
phase_within by.Fetch at value n phase met w p = fetched_within (suc n) met phase (phase_wider n (suc n) phase (omega arith) p)
phase_within by.Put at value n phase met w p = stored_within (suc n) value phase (phase_wider n (suc n) phase (omega arith) p)
phase_within by.Complete at value n phase met w p = idle_within (suc n)
phase_within by.Look at value n phase met w p = phase_if_within (suc n) (is_even met) (Looked at (met / 2)) Idle (record { number = omega arith; turn = half_within n met w }) (idle_within (suc n))
phase_within by.Enter at value n phase met w p = idle_within (suc n)
phase_within by.Leave at value n phase met w p = idle_within (suc n)
phase_within by.Draw at value n phase met w p = idle_within (suc n)

held_if_within : (n : ℕ) (b : Bool) (h : HeldTurn) (held : List HeldTurn) → h.turn ≤ n → AreTurnsWithin n held → AreTurnsWithin n (held_if b h held)
held_if_within n true h held p q = (p, q)
held_if_within n false h held p q = q

filter_within : (n : ℕ) (test : HeldTurn → Bool) (held : List HeldTurn) → AreTurnsWithin n held → AreTurnsWithin n (filter test held)
filter_within n test [] w = tt
filter_within n test (h ∷ held) w =
    elim (test h) as (λ b. AreTurnsWithin n (if b then h ∷ filter test held else filter test held)) [ true ↦ (w.0, filter_within n test held w.1) | false ↦ filter_within n test held w.1 ]

held_within : (kind : Kind) (at n : ℕ) (phase : Phase) (held : List HeldTurn) (met : ℕ) → IsPhaseWithin n phase → AreTurnsWithin n held → AreTurnsWithin (suc n) (held_after kind at phase held met)
held_within by.Enter at n phase held met p w =
    held_if_within (suc n) (met == 2 * turn_in phase) (record { mon = at; turn = turn_in phase + 1 }) held (omega (arith, p.turn)) (turns_wider n (suc n) held (omega arith) w)
held_within by.Leave at n phase held met p w = filter_within (suc n) (λ h. not (h.mon == at)) held (turns_wider n (suc n) held (omega arith) w)
held_within kind at n phase held met p w = turns_wider n (suc n) held (omega arith) w

one_more_within : (n monitor : ℕ) (looks : Option OddLooks) → AreLooksWithin n looks → (one_more monitor looks).count ≤ suc n
one_more_within n monitor None w = omega arith
one_more_within n monitor (Some row) w =
    elim (row.mon == monitor) as (λ b. (if b then row.count + 1 else 1) ≤ suc n) [ true ↦ omega arith | false ↦ omega arith ]

looks_wider : (n m : ℕ) (looks : Option OddLooks) → n ≤ m → AreLooksWithin n looks → AreLooksWithin m looks
looks_wider n m None le w = tt
looks_wider n m (Some row) le w = omega arith

looked_within : (n monitor : ℕ) (even : Bool) (looks : Option OddLooks) → AreLooksWithin n looks → AreLooksWithin (suc n) (looked even monitor looks)
looked_within n monitor true looks w = tt
looked_within n monitor false looks w = one_more_within n monitor looks w

looks_within : (kind : Kind) (at n : ℕ) (looks : Option OddLooks) (met : ℕ) → AreLooksWithin n looks → AreLooksWithin (suc n) (looks_after kind at looks met)
looks_within by.Look at n looks met w = looked_within n at (is_even met) looks w
looks_within kind at n looks met w = looks_wider n (suc n) looks (omega arith) w

if_within : {X : Type 0} (P : X → Type 0) (b : Bool) (x y : X) → (b ≡ true → P x) → P y → P (if b then x else y)
if_within P true x y p q = p refl
if_within P false x y p q = q

pub happens_within : (s : Step) (st : State) (n : ℕ) → IsStateWithin n st → IsStateWithin (suc n) (happens s st)
happens_within s st n w =
    let touched : SharedWord = word_of s.kind s.at in
    let met : ℕ = st.words touched in
    let person : Person = st.people s.who in
    let put : IsWordWithin (suc n) touched (word_after s.kind s.at s.value person.activity met) = word_within s.kind s.at s.value n person.activity met (w.words touched) (w.people s.who) in
    record {
      words = λ word. if_within (IsWordWithin (suc n) word) (same_word word touched) (word_after s.kind s.at s.value person.activity met) (st.words word)
          (λ same. subst (λ (k : SharedWord). IsWordWithin (suc n) k (word_after s.kind s.at s.value person.activity met)) (sym (same_word_tells word touched same)) put)
          (word_wider word n (suc n) (st.words word) (omega arith) (w.words word));
      people = λ who. if_within (λ (p : Person). IsActivityWithin (suc n) p.activity) (who == s.who) (person_after s person met) (st.people who)
          (λ same. record {
            phase = phase_within s.kind s.at s.value n person.activity.phase met (w.words touched) (w.people s.who).phase;
            held = held_within s.kind s.at n person.activity.phase person.activity.held met (w.people s.who).phase (w.people s.who).held;
            looks = looks_within s.kind s.at n person.activity.looks met (w.people s.who).looks;
          })
          (record { phase = phase_wider n (suc n) (st.people who).activity.phase (omega arith) (w.people who).phase; held = turns_wider n (suc n) (st.people who).activity.held (omega arith) (w.people who).held; looks = looks_wider n (suc n) (st.people who).activity.looks (omega arith) (w.people who).looks });
    }

start_within : (starts : List ℕ) (word : SharedWord) → IsWordWithin 0 word ((start_state starts).words word)
start_within starts Drawn = omega arith
start_within starts (Value cell) = tt
start_within starts (Number cell) = omega arith
start_within starts (Monitor monitor) = omega arith

-- after n steps the numbers are those that n steps can lead to
pub after_within : (starts : List ℕ) (steps : List Step) → IsStateWithin (length steps) (after starts steps)
unfolding after
after_within starts [] = record { words = start_within starts; people = λ who. record { phase = idle_within 0; held = tt; looks = tt } }
after_within starts (s ∷ steps) = happens_within s (after starts steps) (length steps) (after_within starts steps)

pub state_wider : (st : State) (n m : ℕ) → n ≤ m → IsStateWithin n st → IsStateWithin m st
state_wider st n m le w = record {
  words = λ word. word_wider word n m (st.words word) le (w.words word);
  people = λ who. record { phase = phase_wider n m (st.people who).activity.phase le (w.people who).phase; held = turns_wider n m (st.people who).activity.held le (w.people who).held; looks = looks_wider n m (st.people who).activity.looks le (w.people who).looks };
}

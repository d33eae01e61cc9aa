-- The stamps of a thread's events, after a step.
use Rattle.std.proofs.Common.{◌≡◌, ℕ, ◌+◌, ◌*◌, ◌/◌, ◌==◌, ◌<◌, ◌≤◌, Bool, true, false, if◌then◌else◌, [], ◌∷◌, ◌++◌, length, Option, Some, None, refl, sym, ◌∙◌, ap, subst, inl, inr, arith}
use Rattle.std.proofs.lemmas.Bool.{cond-true, eq-eqb, ne_eqb, cases_eq}
use Rattle.std.proofs.lemmas.List.{length_push}
use Rattle.interleavings.specs.declared.activity.Activity.{Activity}
use Rattle.interleavings.specs.declared.activity.Phase.{Phase}
use Rattle.interleavings.specs.declared.activity.Phase.TheVariants.{Idle, Loaded, Numbered, Marked, Fetched, Stored, Looked}
use Rattle.interleavings.specs.declared.event.Event.{Event}
use Rattle.interleavings.specs.declared.kind.Kind.{Kind}
use Rattle.interleavings.specs.declared.kind.Kind.TheVariants as by
use Rattle.interleavings.specs.AtomicStep.{SharedWord, Number, word_of, Begins, is_even, phase_if, phase_after, entered_if, read_if, with_event}
use Rattle.histories.specs.Chronicle.{Stamp, Chronicle, HasBegun, AreStamps}
use Rattle.histories.proofs.Notes.{begun_by, from_of, stamp_if}
use Rattle.histories.proofs.Standings.{spot_at}

pub stamp_kept : (own : Bool) (count i : ℕ) (new old : Stamp) → i < count → stamp_if own (i == count) new old ≡ old
stamp_kept true count i new old less = ap (λ b. stamp_if true b new old) (ne_eqb i count (λ e. omega arith))
stamp_kept false count i new old less = refl

pub stamp_new : (own : Bool) (count i : ℕ) (new old : Stamp) → own ≡ true → i ≡ count → stamp_if own (i == count) new old ≡ new
stamp_new own count i new old e same = ap (λ b. stamp_if b (i == count) new old) e ∙ ap (λ b. stamp_if true b new old) (eq-eqb i count same)

-- the stamps of another thread, after a step
pub stamps_like : (now begun begun' : ℕ) (stamp stamp' : ℕ → Stamp) (count : ℕ) (phase : Phase) → begun' ≡ begun → ((i : ℕ) → i < count → stamp' i ≡ stamp i) → AreStamps now begun stamp count phase → AreStamps (now + 1) begun' stamp' count phase
stamps_like now begun begun' stamp stamp' count phase same like are = record {
  begun_past = omega (arith, are.begun_past);
  ordered = λ i less. omega (arith, ap (λ s. s.from) (like i less), ap (λ s. s.upto) (like i less), are.ordered i less);
  past = λ i less. omega (arith, ap (λ s. s.upto) (like i less), are.past i less);
  apart = λ i j less inside. (let first : i < count = omega arith in omega (arith, ap (λ s. s.upto) (like i first), ap (λ s. s.from) (like j inside), are.apart i j less inside));
  behind = λ busy i less. omega (arith, ap (λ s. s.upto) (like i less), are.behind busy i less);
}

-- no event was finished, and the thread has begun one if it had before
same_stamps : (now begun : ℕ) (stamp stamp' : ℕ → Stamp) (count : ℕ) (phase phase' : Phase) → (HasBegun phase' → HasBegun phase) → ((i : ℕ) → i < count → stamp' i ≡ stamp i) → AreStamps now begun stamp count phase → AreStamps (now + 1) begun stamp' count phase'
same_stamps now begun stamp stamp' count phase phase' busy like are =
    let next = stamps_like now begun begun stamp stamp' count phase refl like are in
    record { begun_past = next.begun_past; ordered = next.ordered; past = next.past; apart = next.apart; behind = λ b. next.behind (busy b) }

-- the thread begins an event
begin_stamps : (now begun : ℕ) (stamp stamp' : ℕ → Stamp) (count : ℕ) (phase phase' : Phase) → ((i : ℕ) → i < count → stamp' i ≡ stamp i) → AreStamps now begun stamp count phase → AreStamps (now + 1) (now + 1) stamp' count phase'
begin_stamps now begun stamp stamp' count phase phase' like are =
    let next = stamps_like now begun begun stamp stamp' count phase refl like are in
    record { begun_past = omega arith; ordered = next.ordered; past = next.past; apart = next.apart; behind = λ busy i less. omega (arith, ap (λ s. s.upto) (like i less), are.past i less) }

-- an event was finished, which took effect after those before it were finished
more_stamps : (now begun from : ℕ) (stamp stamp' : ℕ → Stamp) (count : ℕ) (phase phase' : Phase) → (HasBegun phase' → ⊥) → ((i : ℕ) → i < count → stamp' i ≡ stamp i) → stamp' count ≡ record { from = from; upto = now + 1 } → from ≤ now + 1 → ((i : ℕ) → i < count → (stamp i).upto < from) → AreStamps now begun stamp count phase → AreStamps (now + 1) begun stamp' (count + 1) phase'
more_stamps now begun from stamp stamp' count phase phase' idle like new late apart are =
    let next = stamps_like now begun begun stamp stamp' count phase refl like are in
    let new_from : (stamp' count).from ≡ from = ap (λ s. s.from) new in
    let new_upto : (stamp' count).upto ≡ now + 1 = ap (λ s. s.upto) new in
    record {
      begun_past = next.begun_past;
      ordered = λ i less. elim (cases_eq i count) [
        | inl same ↦ (let f : (stamp' i).from ≡ from = ap (λ x. (stamp' x).from) same ∙ new_from in let u : (stamp' i).upto ≡ now + 1 = ap (λ x. (stamp' x).upto) same ∙ new_upto in omega arith)
        | inr other ↦ next.ordered i (omega arith)
      ];
      past = λ i less. elim (cases_eq i count) [
        | inl same ↦ (let u : (stamp' i).upto ≡ now + 1 = ap (λ x. (stamp' x).upto) same ∙ new_upto in omega arith)
        | inr other ↦ next.past i (omega arith)
      ];
      apart = λ i j less inside. elim (cases_eq j count) [
        | inl same ↦ (let first : i < count = omega arith in let f : (stamp' j).from ≡ from = ap (λ x. (stamp' x).from) same ∙ new_from in omega (arith, ap (λ s. s.upto) (like i first), apart i first))
        | inr other ↦ next.apart i j less (omega arith)
      ];
      behind = λ busy. absurd (idle busy);
    }

-- the stamps of the thread that makes a step
abbrev pub stamps_at : (c : Chronicle) (who : ℕ) (kind : Kind) (activity : Activity) → ℕ → Stamp
stamps_at c who kind activity i = stamp_if (who == who) (i == length activity.events) (record { from = from_of kind (c.begun who) (c.now + 1); upto = c.now + 1 }) (c.stamp who i)

module _ (c : Chronicle) (who : ℕ) (kind : Kind) (acts : Activity) where
  abbrev n : ℕ
  n = length acts.events

  like : (i : ℕ) → i < n → stamps_at c who kind acts i ≡ c.stamp who i
  like i less = stamp_kept (who == who) n i _ (c.stamp who i) less

  no_event : (phase phase' : Phase) → (HasBegun phase' → HasBegun phase) → AreStamps c.now (c.begun who) (c.stamp who) n phase → AreStamps (c.now + 1) (c.begun who) (stamps_at c who kind acts) n phase'
  no_event phase phase' busy are = same_stamps c.now (c.begun who) (c.stamp who) (stamps_at c who kind acts) n phase phase' busy like are

  begins_event : (phase phase' : Phase) → AreStamps c.now (c.begun who) (c.stamp who) n phase → AreStamps (c.now + 1) (if who == who then c.now + 1 else c.begun who) (stamps_at c who kind acts) n phase'
  begins_event phase phase' are = subst (λ (x : ℕ). AreStamps (c.now + 1) x (stamps_at c who kind acts) n phase') (sym (cond-true (who == who) (c.now + 1) (c.begun who) (eq-eqb who who refl))) (begin_stamps c.now (c.begun who) (c.stamp who) (stamps_at c who kind acts) n phase phase' like are)

  new_event : (phase : Phase) (event : Event) → from_of kind (c.begun who) (c.now + 1) ≤ c.now + 1 → ((i : ℕ) → i < n → (c.stamp who i).upto < from_of kind (c.begun who) (c.now + 1)) → AreStamps c.now (c.begun who) (c.stamp who) n phase → AreStamps (c.now + 1) (c.begun who) (stamps_at c who kind acts) (length (acts.events ++ event ∷ [])) Idle
  new_event phase event late apart are =
      subst (λ (x : ℕ). AreStamps (c.now + 1) (c.begun who) (stamps_at c who kind acts) x Idle) (sym (length_push acts.events event))
      (more_stamps c.now (c.begun who) (from_of kind (c.begun who) (c.now + 1)) (c.stamp who) (stamps_at c who kind acts) n phase Idle (λ b. b) like (stamp_new (who == who) n n _ (c.stamp who n) (eq-eqb who who refl) refl) late apart are)

  idle_in : (b : Bool) (phase other : Phase) → (HasBegun phase → ⊥) → (HasBegun other → ⊥) → HasBegun (phase_if b phase other) → ⊥
  idle_in true phase other p q busy = p busy
  idle_in false phase other p q busy = q busy

-- a read that meets an even number is finished, and else goes on
reads_stamps : (c : Chronicle) (who : ℕ) (acts : Activity) (b : Bool) (a v bound : ℕ) → AreStamps c.now (c.begun who) (c.stamp who) (length acts.events) (Loaded a v) → AreStamps (c.now + 1) (c.begun who) (stamps_at c who by.NumberLoad acts) (length (with_event acts.events (read_if b (Loaded a v) bound))) (phase_if b Idle (Loaded a v))
reads_stamps c who acts true a v bound are = new_event c who by.NumberLoad acts (Loaded a v) _ (omega (arith, are.begun_past)) (λ i less. are.behind tt i less) are
reads_stamps c who acts false a v bound are = no_event c who by.NumberLoad acts (Loaded a v) (Loaded a v) (λ b. b) are

enters_stamps : (c : Chronicle) (who : ℕ) (acts : Activity) (b : Bool) (at turn m seen : ℕ) → AreStamps c.now (c.begun who) (c.stamp who) (length acts.events) (Looked m seen) → AreStamps (c.now + 1) (c.begun who) (stamps_at c who by.Enter acts) (length (with_event acts.events (entered_if b at turn))) Idle
enters_stamps c who acts true at turn m seen are = new_event c who by.Enter acts (Looked m seen) _ (omega arith) (λ i less. omega (arith, are.past i less)) are
enters_stamps c who acts false at turn m seen are = no_event c who by.Enter acts (Looked m seen) Idle (λ b. absurd b) are

completes_stamps : (c : Chronicle) (who : ℕ) (acts : Activity) (a n v : ℕ) (old : Option ℕ) (event : Event) → AreStamps c.now (c.begun who) (c.stamp who) (length acts.events) (Stored a n old v) → AreStamps (c.now + 1) (c.begun who) (stamps_at c who by.Complete acts) (length (acts.events ++ event ∷ [])) Idle
completes_stamps c who acts a n v old event are = new_event c who by.Complete acts (Stored a n old v) event (omega (arith, are.begun_past)) (λ i less. are.behind tt i less) are

-- by the step's kind and the phase
pub own_stamps : (words : SharedWord → ℕ) (c : Chronicle) (who : ℕ) (kind : Kind) (at value : ℕ) (activity : Activity) (phase : Phase) → Begins kind at phase → AreStamps c.now (c.begun who) (c.stamp who) (length activity.events) phase → AreStamps (c.now + 1) (begun_by kind (who == who) (c.now + 1) (c.begun who)) (stamps_at c who kind activity) (spot_at words kind at activity phase) (phase_after kind at value phase (words (word_of kind at)))
own_stamps words c who by.ValueLoad at value activity Idle begins are = begins_event c who by.ValueLoad activity Idle (Loaded at (words (word_of by.ValueLoad at))) are
own_stamps words c who by.NumberLoad at value activity (Loaded a v) begins are = reads_stamps c who activity (is_even (words (Number at))) a v (words (Number at) / 2) are
own_stamps words c who by.SeeNumber at value activity Idle begins are = no_event c who by.SeeNumber activity Idle _ (λ b. absurd (idle_in c who by.SeeNumber activity (is_even (words (Number at))) (Numbered at (words (Number at) / 2)) Idle (λ b. b) (λ b. b) b)) are
own_stamps words c who by.Claim at value activity (Numbered a n) begins are = no_event c who by.Claim activity (Numbered a n) _ (λ b. absurd (idle_in c who by.Claim activity (words (Number at) == 2 * n) (Marked a n) Idle (λ b. b) (λ b. b) b)) are
own_stamps words c who by.Fetch at value activity (Marked a n) begins are = no_event c who by.Fetch activity (Marked a n) (Fetched a n (words (word_of by.Fetch at))) (λ b. b) are
own_stamps words c who by.Put at value activity (Marked a n) begins are = begins_event c who by.Put activity (Marked a n) (Stored a n None value) are
own_stamps words c who by.Put at value activity (Fetched a n old) begins are = begins_event c who by.Put activity (Fetched a n old) (Stored a n (Some old) value) are
own_stamps words c who by.Complete at value activity (Stored a n None v) begins are = completes_stamps c who activity a n v None _ are
own_stamps words c who by.Complete at value activity (Stored a n (Some old) v) begins are = completes_stamps c who activity a n v (Some old) _ are
own_stamps words c who by.Look at value activity Idle begins are = no_event c who by.Look activity Idle _ (λ b. absurd (idle_in c who by.Look activity (is_even (words (word_of by.Look at))) (Looked at (words (word_of by.Look at) / 2)) Idle (λ b. b) (λ b. b) b)) are
own_stamps words c who by.Enter at value activity (Looked m turn) begins are = enters_stamps c who activity (words (word_of by.Enter at) == 2 * turn) at (turn + 1) m turn are
own_stamps words c who by.Leave at value activity Idle begins are = new_event c who by.Leave activity Idle _ (omega arith) (λ i less. omega (arith, are.past i less)) are
own_stamps words c who by.Draw at value activity Idle begins are = no_event c who by.Draw activity Idle Idle (λ b. b) are
own_stamps words c who kind at value activity phase begins are = absurd begins

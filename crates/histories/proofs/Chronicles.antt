-- Every history has a chronicle.
use Rattle.std.proofs.Common.{◌≡◌, ◌≢◌, ℕ, ◌+◌, ◌/◌, ◌==◌, ◌<◌, ◌≤◌, Bool, true, false, if◌then◌else◌, List, [], ◌∷◌, length, Option, Some, None, slice_get, refl, sym, ◌∙◌, ap, subst, inl, inr, arith}
use Rattle.std.proofs.lemmas.Bool.{cond_both, eqb-true, eqb-false, eq-eqb, ne_eqb}
use Rattle.std.proofs.lemmas.Option.{none-some, slice_get_within}
use Rattle.interleavings.specs.declared.activity.Activity.{Activity}
use Rattle.interleavings.specs.declared.event.Event.{Event}
use Rattle.interleavings.specs.declared.kind.Kind.{Kind}
use Rattle.interleavings.specs.declared.kind.Kind.TheVariants as by
use Rattle.interleavings.specs.AtomicStep.{Number, Monitor, word_of, May, held_turn, finished_by}
use Rattle.interleavings.specs.History.{Person, State, Step, put_person, person_after, start_state, happens, after, IsHistory}
use Rattle.histories.specs.Chronicle.{Series, Puts, Entries, Exits, Mark, Stamp, Chronicle, IsOwned, IsStanding, AreStamps, Tells, IsMade, IsChronicleOf, claim_of}
use Rattle.histories.specs.Laws.{HistoriesHaveChronicles}
use Rattle.histories.proofs.CellMoves.{cell_moves}
use Rattle.histories.proofs.EventLists.{event_where}
use Rattle.histories.proofs.Growth.{Grows, noted_grows, mark_new, value_kept, past_still, rises_still, tells_still}
use Rattle.histories.proofs.MonitorMoves.{MonitorMoves, monitor_moves}
use Rattle.histories.proofs.NewEvents.{TellsIf, own_tells}
use Rattle.histories.proofs.NewMarks.{made_kept, made_new}
use Rattle.histories.proofs.Notes.{adds, count_if, begun_by, from_of, stamp_if, noted_in, no_notes}
use Rattle.histories.proofs.Ownership.{alone, owned_kept}
use Rattle.histories.proofs.Stamps.{stamp_kept, stamp_new, stamps_like, own_stamps}
use Rattle.histories.proofs.Standings.{own_stands, others_stand, puts_claimed}
use Rattle.histories.proofs.WordsKept.{value_after, number_after, enters_even, turns_after, added, apart_after}

-- what holds of the thread that makes a step and of each other thread holds of every thread
pub each_person : (P : ℕ → Person → Type 0) (people : ℕ → Person) (who : ℕ) (person : Person) → P who person → ((t : ℕ) → t ≢ who → P t (people t)) → (t : ℕ) → P t (put_person people who person t)
each_person P people who person own others t = cond_both (t == who) person (people t) (P t) (λ e. subst (λ (x : ℕ). P x person) (sym (eqb-true t who e)) own) (λ e. others t (eqb-false t who e))

cond_ap : {A B : Type 0} (f : A → B) (b : Bool) (x y : A) → f (if b then x else y) ≡ (if b then f x else f y)
cond_ap f true x y = refl
cond_ap f false x y = refl

begun_elsewhere : (kind : Kind) (now begun : ℕ) → begun_by kind false now begun ≡ begun
begun_elsewhere by.ValueLoad now begun = refl
begun_elsewhere by.Put now begun = refl
begun_elsewhere kind now begun = refl

not_added : (b : Bool) (count : ℕ) → (b ≡ true → ⊥) → count_if b count ≡ count
not_added true count never = absurd (never refl)
not_added false count never = refl

module _ (starts : List ℕ) (s : Step) (st : State) (c : Chronicle) (is : IsChronicleOf starts st c) (may : May s.kind s.at (st.people s.who).activity) where
  abbrev acts : Activity
  acts = (st.people s.who).activity

  abbrev met : ℕ
  met = st.words (word_of s.kind s.at)

  abbrev st' : State
  st' = happens s st

  abbrev c' : Chronicle
  c' = noted_in s st c

  abbrev person : Person
  person = person_after s (st.people s.who) met

  grows : Grows c c'
  grows = noted_grows s.who s.kind s.at s.value acts met st.words st'.words c

  monitors_move : (monitor : ℕ) → MonitorMoves (adds s.kind s.at acts.phase met (Entries monitor)) (adds s.kind s.at acts.phase met (Exits monitor)) (st.words (Monitor monitor)) (st'.words (Monitor monitor)) (held_turn monitor acts.held) (held_turn monitor person.activity.held)
  monitors_move monitor = monitor_moves st.words monitor (s.who == c.owner (Monitor monitor)) s.kind s.at s.value acts acts.phase may.begins may.suits (is.holds monitor s.who)

  claims' : (cell : ℕ) → IsOwned (st'.words (Number cell)) (c'.owner (Number cell)) (λ t. claim_of cell (st'.people t).activity.phase)
  claims' cell t =
      cond_ap (λ (p : Person). claim_of cell p.activity.phase) (t == s.who) person (st.people t)
      ∙ owned_kept (Unit {0}) (Unit {0}) (Unit {0}) (st.words (Number cell)) (st'.words (Number cell)) (c.owner (Number cell)) (λ x. claim_of cell (st.people x).activity.phase) s.who (claim_of cell person.activity.phase) (is.claims cell)
      (cell_moves st.words cell (s.who == c.owner (Number cell)) s.kind s.at s.value acts acts.phase may.begins (is.claims cell s.who)) t

  holds' : (monitor : ℕ) → IsOwned (st'.words (Monitor monitor)) (c'.owner (Monitor monitor)) (λ t. held_turn monitor (st'.people t).activity.held)
  holds' monitor t =
      cond_ap (λ (p : Person). held_turn monitor p.activity.held) (t == s.who) person (st.people t)
      ∙ owned_kept _ _ _ (st.words (Monitor monitor)) (st'.words (Monitor monitor)) (c.owner (Monitor monitor)) (λ x. held_turn monitor (st.people x).activity.held) s.who (held_turn monitor person.activity.held) (is.holds monitor) (monitors_move monitor) t

  turns' : (monitor : ℕ) → (c'.count (Entries monitor) ≡ (st'.words (Monitor monitor) + 1) / 2) × (c'.count (Exits monitor) ≡ st'.words (Monitor monitor) / 2)
  turns' monitor = turns_after (adds s.kind s.at acts.phase met (Entries monitor)) (adds s.kind s.at acts.phase met (Exits monitor)) (s.who == c.owner (Monitor monitor)) (st.words (Monitor monitor)) (st'.words (Monitor monitor)) (held_turn monitor acts.held) (held_turn monitor person.activity.held) (c.count (Entries monitor)) (c.count (Exits monitor)) (monitors_move monitor) (is.holds monitor s.who) (is.entries monitor) (is.exits monitor)

  apart' : (monitor j : ℕ) → j + 1 ≤ c'.count (Entries monitor) → (c'.mark (Exits monitor) j).time < (c'.mark (Entries monitor) (j + 1)).time
  apart' monitor j = apart_after c c' monitor (st.words (Monitor monitor)) j grows is.past (is.entries monitor) (is.exits monitor)
      (λ le. enters_even (adds s.kind s.at acts.phase met (Entries monitor)) (adds s.kind s.at acts.phase met (Exits monitor)) (st.words (Monitor monitor)) (st'.words (Monitor monitor)) (held_turn monitor acts.held) (held_turn monitor person.activity.held) (monitors_move monitor) (added (adds s.kind s.at acts.phase met (Entries monitor)) (c.count (Entries monitor)) le))
      (is.turns monitor)

  begun_same : (t : ℕ) → t ≢ s.who → c'.begun t ≡ c.begun t
  begun_same t differs = ap (λ b. begun_by s.kind b (c.now + 1) (c.begun t)) (ne_eqb t s.who differs) ∙ begun_elsewhere s.kind (c.now + 1) (c.begun t)

  puts_same : (t : ℕ) → t ≢ s.who → (cell : ℕ) → (claim_of cell (st.people t).activity.phase ≡ None → ⊥) → c'.count (Puts cell) ≡ c.count (Puts cell)
  puts_same t differs cell some = not_added (adds s.kind s.at acts.phase met (Puts cell)) (c.count (Puts cell))
      (λ e. differs (alone (st.words (Number cell)) (c.owner (Number cell)) (λ x. claim_of cell (st.people x).activity.phase) t s.who (is.claims cell) some (puts_claimed s.kind s.at acts.phase met cell may.begins e)))

  stands' : (t : ℕ) → IsStanding c' t (length (st'.people t).activity.events) (st'.people t).activity.phase
  stands' = each_person (λ t p. IsStanding c' t (length p.activity.events) p.activity.phase) st.people s.who person
      (own_stands st.words st'.words c s.who s.kind s.at s.value acts acts.phase may.begins is.past is.value is.number (is.follows s.who).begun_past (is.stands s.who))
      (λ t differs. others_stand c c' t (length (st.people t).activity.events) (st.people t).activity.phase grows (begun_same t differs) (is.follows t).begun_past (puts_same t differs) (is.stands t))

  follows' : (t : ℕ) → AreStamps c'.now (c'.begun t) (c'.stamp t) (length (st'.people t).activity.events) (st'.people t).activity.phase
  follows' = each_person (λ t p. AreStamps c'.now (c'.begun t) (c'.stamp t) (length p.activity.events) p.activity.phase) st.people s.who person
      (own_stamps st.words c s.who s.kind s.at s.value acts acts.phase may.begins (is.follows s.who))
      (λ t differs. stamps_like c.now (c.begun t) (c'.begun t) (c.stamp t) (c'.stamp t) (length (st.people t).activity.events) (st.people t).activity.phase (begun_same t differs) (λ i less. stamp_same t differs i) (is.follows t))
    where
      stamp_same : (t : ℕ) → t ≢ s.who → (i : ℕ) → c'.stamp t i ≡ c.stamp t i
      stamp_same t differs i = ap (λ b. stamp_if b (i == length acts.events) (record { from = from_of s.kind (c.begun s.who) (c.now + 1); upto = c.now + 1 }) (c.stamp t i)) (ne_eqb t s.who differs)

  -- what an event that was there tells
  old_tells : (t i : ℕ) (event : Event) → c'.stamp t i ≡ c.stamp t i → slice_get (st.people t).activity.events i ≡ Some event → Tells c' t i (c'.stamp t i) event
  old_tells t i event same there =
      let less : i < length (st.people t).activity.events = slice_get_within (st.people t).activity.events i event there in
      let ordered = (is.follows t).ordered i less in
      let past = (is.follows t).past i less in
      subst (λ (x : Stamp). Tells c' t i x event) (sym same) (tells_still c c' grows t i (c.stamp t i) event (omega arith) past (is.tells t i event there))

  abbrev new_stamp : Stamp
  new_stamp = record { from = from_of s.kind (c.begun s.who) (c.now + 1); upto = c.now + 1 }

  own_told : (i : ℕ) (event : Event) → slice_get person.activity.events i ≡ Some event → Tells c' s.who i (c'.stamp s.who i) event
  own_told i event there = elim (event_where acts.events (finished_by s.kind s.at acts met) event i there) [
    | inl old ↦ old_tells s.who i event (stamp_kept (s.who == s.who) (length acts.events) i new_stamp (c.stamp s.who i) (slice_get_within acts.events i event old)) old
    | inr new ↦ subst (λ (x : Stamp). Tells c' s.who i x event) (sym (stamp_new (s.who == s.who) (length acts.events) i new_stamp (c.stamp s.who i) (eq-eqb s.who s.who refl) new.0))
        (subst (λ (x : ℕ). Tells c' s.who x new_stamp event) (sym new.0)
        (subst (λ (o : Option Event). TellsIf c' s.who (length acts.events) new_stamp o) new.1
        (own_tells st.words st'.words c s.who (s.who == c.owner (Monitor s.at)) s.kind s.at s.value acts acts.phase may.begins may.suits is.past is.number (is.entries s.at) (is.exits s.at) (is.holds s.at s.who) (is.follows s.who).begun_past (is.stands s.who))))
  ]

  tells' : (t i : ℕ) (event : Event) → slice_get (st'.people t).activity.events i ≡ Some event → Tells c' t i (c'.stamp t i) event
  tells' = each_person (λ t p. (i : ℕ) (event : Event) → slice_get p.activity.events i ≡ Some event → Tells c' t i (c'.stamp t i) event) st.people s.who person own_told
      (λ t differs i event there. old_tells t i event (ap (λ b. stamp_if b (i == length acts.events) new_stamp (c.stamp t i)) (ne_eqb t s.who differs)) there)

  maker : put_person st.people s.who person s.who ≡ person
  maker = cond_both (s.who == s.who) person (st.people s.who) (λ x. x ≡ person) (λ e. refl) (λ e. absurd (eqb-false s.who s.who e refl))

  made' : (series : Series) (k : ℕ) → 1 ≤ k → k ≤ c'.count series → IsMade series k (c'.mark series k) (st'.people (c'.mark series k).who).activity
  made' series k some le = elim (grows.each series k le) [
    | inl old ↦ subst (λ (m : Mark). IsMade series k m (st'.people m.who).activity) (sym (grows.kept series k old))
        (each_person (λ t p. IsMade series k (c.mark series k) (st.people t).activity → IsMade series k (c.mark series k) p.activity) st.people s.who person
        (λ made. made_kept st.words c s.who s.kind s.at s.value acts series k may.begins (is.stands s.who) made)
        (λ t differs made. made)
        (c.mark series k).who (is.made series k some old))
    | inr new ↦
        let adds_one = added (adds s.kind s.at acts.phase met series) (c.count series) (let more : c.count series + 1 ≤ c'.count series = omega (arith, new.0) in more) in
        let mark : Mark = record { who = s.who; spot = length acts.events; time = c.now + 1; value = s.value } in
        subst (λ (m : Mark). IsMade series k m (st'.people m.who).activity) (sym (mark_new (adds s.kind s.at acts.phase met series) (c.count series) k mark (c.mark series k) adds_one new.0))
        (subst (λ (p : Person). IsMade series k mark p.activity) (sym maker)
        (subst (λ (x : ℕ). IsMade series x mark person.activity) (sym new.0)
        (made_new st.words c s.who (s.who == c.owner (Monitor s.at)) s.kind s.at s.value acts acts.phase series may.begins may.suits (is.entries s.at) (is.exits s.at) (is.holds s.at s.who) (is.stands s.who) adds_one)))
  ]

  -- the chronicle after a step
  pub chronicle_after : IsChronicleOf starts st' c'
  chronicle_after = record {
    past = past_still c c' grows is.past;
    rises = rises_still c c' grows is.past is.rises;
    claims = claims';
    holds = holds';
    value = λ cell. value_after st.words st'.words c s.who s.kind s.at s.value acts cell (is.value cell);
    number = λ cell. number_after st.words st'.words c s.who (s.who == c.owner (Number cell)) s.kind s.at s.value acts acts.phase cell may.begins (is.claims cell s.who) (is.stands s.who) (is.number cell);
    entries = λ monitor. (turns' monitor).0;
    exits = λ monitor. (turns' monitor).1;
    turns = apart';
    starting = λ cell. value_kept c c' grows (Puts cell) 0 (omega arith) ∙ is.starting cell;
    stands = stands';
    follows = follows';
    tells = tells';
    made = made';
  }

-- before any step
chronicle_before : (starts : List ℕ) → IsChronicleOf starts (start_state starts) (no_notes starts)
chronicle_before starts = record {
  past = λ series k le. omega arith;
  rises = λ series j k less le. absurd (omega arith);
  claims = λ cell t. refl;
  holds = λ monitor t. refl;
  value = λ cell. refl;
  number = λ cell even. refl;
  entries = λ monitor. refl;
  exits = λ monitor. refl;
  turns = λ monitor j le. absurd (omega arith);
  starting = λ cell. refl;
  stands = λ t. tt;
  follows = λ t. record { begun_past = omega arith; ordered = λ i less. absurd (omega arith); past = λ i less. absurd (omega arith); apart = λ i j less inside. absurd (omega arith); behind = λ busy. absurd busy };
  tells = λ t i event there. absurd (none-some event there);
  made = λ series k some le. absurd (omega arith);
}

-- of any steps
pub chronicles : HistoriesHaveChronicles
unfolding after IsHistory
chronicles starts [] lawful = (no_notes starts, chronicle_before starts)
chronicles starts (s ∷ steps) lawful =
    let before = chronicles starts steps lawful.1 in
    (noted_in s (after starts steps) before.0, chronicle_after starts s (after starts steps) before.0 before.1 lawful.0)

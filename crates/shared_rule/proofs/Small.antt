-- Numbers and turns have 31 bits.
use Rattle.std.proofs.Common.{◌≡◌, ℕ, zero, suc, ◌+◌, ◌*◌, ◌≤◌, Bool, true, false, cond, List, [], ◌∷◌, count_by, sum_by, refl, sym, subst, arith}
use Rattle.std.specs.List.{range_with_len}
use Rattle.std.proofs.lemmas.List.Sums.{sum_by-cons}
use Rattle.atomic_table.specs.Table as table
use Rattle.interleavings.specs.declared.event.Event.{Event}
use Rattle.interleavings.specs.declared.event.Event.TheVariants.{Read, Write, Update, Enter, Exit}
use Rattle.interleavings.specs.declared.kind.Kind.{Kind}
use Rattle.interleavings.specs.declared.kind.Kind.TheVariants as by
use Rattle.interleavings.specs.AtomicStep.{Drawn, Number, Monitor, word_of}
use Rattle.interleavings.specs.History.{State, after}
use Rattle.histories.specs.Facts.{enters, passing, writes}
use Rattle.shared_rule.specs.declared.limits.TheConstants.{DRAW_LIMIT, EVENT_LIMIT}
use Rattle.shared_rule.specs.declared.view.View.{View}
use Rattle.shared_rule.specs.Facts.{HistoriesKeep}
use Rattle.shared_rule.specs.Holding.{is_entered, Fits, Holds}
use Rattle.shared_rule.specs.Plays.{IsSmall, Met}

-- a test that passes only what another passes
count_less : (test : Event → Bool) → ((event : Event) → cond (test event) 1 0 ≤ cond (is_entered event) 1 0) → (done : List Event) → count_by test done ≤ count_by is_entered done
count_less test less [] = omega arith
count_less test less (event ∷ done) =
    let rest = count_less test less done in
    let one = less event in
    omega (arith, sum_by-cons (λ e. cond (test e) 1 0) event done, sum_by-cons (λ e. cond (is_entered e) 1 0) event done)

bit_within : (b : Bool) → cond b 1 0 ≤ 1
bit_within true = omega arith
bit_within false = omega arith

writes_less : (cell : ℕ) (event : Event) → cond (writes cell event) 1 0 ≤ cond (is_entered event) 1 0
writes_less cell (Read at value bound) = omega arith
writes_less cell (Write at value number) = bit_within (writes cell (Write at value number))
writes_less cell (Update at old new number) = bit_within (writes cell (Update at old new number))
writes_less cell (Enter monitor turn) = omega arith
writes_less cell (Exit monitor turn) = omega arith

enters_less : (monitor : ℕ) (event : Event) → cond (enters monitor event) 1 0 ≤ cond (is_entered event) 1 0
enters_less monitor (Read at value bound) = omega arith
enters_less monitor (Write at value number) = omega arith
enters_less monitor (Update at old new number) = omega arith
enters_less monitor (Enter at turn) = bit_within (enters monitor (Enter at turn))
enters_less monitor (Exit at turn) = omega arith

sum_within : (f : ℕ → ℕ) (most : ℕ) → ((t : ℕ) → f t ≤ most) → (a n : ℕ) → sum_by f (range_with_len a n) ≤ n * most
sum_within f most each a zero = omega arith
sum_within f most each a (suc n) =
    let rest = sum_within f most each (a + 1) n in
    let one = each a in
    omega (arith, sum_by-cons f a (range_with_len (a + 1) n))

module _ (starts : List ℕ) (s : table.State (Unit {0}) View) (holds : Holds starts s) (facts : HistoriesKeep) where
  abbrev st : State
  st = after starts holds.steps

  pub drawn_within : st.words Drawn ≤ DRAW_LIMIT
  drawn_within = (let old = holds.draws in omega arith)

  passing_within : (test : Event → Bool) → ((event : Event) → cond (test event) 1 0 ≤ cond (is_entered event) 1 0) → passing test (st.words Drawn) st ≤ DRAW_LIMIT * EVENT_LIMIT
  passing_within test less =
      let all = sum_within (λ t. count_by test (st.people t).activity.events) EVENT_LIMIT
      (λ t. (let few = holds.few t in let part = count_less test less (st.people t).activity.events in omega arith)) 0 (st.words Drawn) in
      let drawn = drawn_within in
      omega arith

  pub number_small : (cell : ℕ) → IsSmall (st.words (Number cell))
  number_small cell =
      let count = facts.numbers starts holds.steps (st.words Drawn) cell holds.lawful holds.named in
      let within = passing_within (writes cell) (writes_less cell) in
      omega arith

  pub turn_small : (monitor : ℕ) → IsSmall (st.words (Monitor monitor))
  turn_small monitor =
      let count = facts.turns starts holds.steps (st.words Drawn) monitor holds.lawful holds.named in
      let within = passing_within (enters monitor) (enters_less monitor) in
      omega arith

  -- what a step met
  pub met_known : (v : View) → Fits starts st v → (kind : Kind) (at met : ℕ) → (word_of kind at ≡ Drawn → ⊥) → met ≡ st.words (word_of kind at) → Met kind at v met
  met_known v fits by.ValueLoad at met apart is = tt
  met_known v fits by.NumberLoad at met apart is = (subst IsSmall (sym is) (number_small at), (let below = fits.seen at in omega arith))
  met_known v fits by.SeeNumber at met apart is = subst IsSmall (sym is) (number_small at)
  met_known v fits by.Claim at met apart is = subst IsSmall (sym is) (number_small at)
  met_known v fits by.Fetch at met apart is = tt
  met_known v fits by.Put at met apart is = tt
  met_known v fits by.Complete at met apart is = subst IsSmall (sym is) (number_small at)
  met_known v fits by.Look at met apart is = subst IsSmall (sym is) (turn_small at)
  met_known v fits by.Enter at met apart is = subst IsSmall (sym is) (turn_small at)
  met_known v fits by.Leave at met apart is = subst IsSmall (sym is) (turn_small at)
  met_known v fits by.Draw at met apart is = absurd (apart refl)

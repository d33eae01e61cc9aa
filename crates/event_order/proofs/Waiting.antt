-- For which slots deeds wait, as one deed more stands.
use Rattle.std.proofs.Common.{◌≡◌, ◌≢◌, ℕ, ◌+◌, ◌-◌, ◌*◌, ◌<◌, ◌≤◌, true, false, List, [], Option, Some, None, length, get_or, drop, refl, sym, ◌∙◌, ap, inl, inr, arith, add-one, length-drop}
use Rattle.std.specs.Prelude.{ltb, min, option_and_then, slice_range, slice_set}
use Rattle.std.proofs.Math.Nat.{min-eq_right, min-le_right, zero-min}
use Rattle.std.proofs.lemmas.Bool.{cases_eq, cases_lt, le-ltb, lt-ltb}
use Rattle.std.proofs.lemmas.List.{get_or_past, get_or-take, get_or-drop, get_or-set_same, get_or-set_other, length-set, length-take}
use Rattle.std.proofs.lemmas.Option.{slice_get-get_or}
use Rattle.interleavings.specs.declared.traces.Place.{Place}
use Rattle.event_order.specs.Backs.{Gives}
use Rattle.event_order.specs.Deeds.{deed_at, deeds_of, gives_at, gives_of, size}
use Rattle.event_order.specs.Fronts.{IsFront, IsRaised, awaited, awaited_of, done_of, none_done, tallied, waiting}
use Rattle.event_order.specs.Sums.{upto}
use Rattle.event_order.specs.Tables.{is_given, same_slot}
use Rattle.event_order.specs.declared.deed.Deed.{Deed}
use Rattle.event_order.specs.declared.slot.Slot.{Slot}
use Rattle.event_order.proofs.Rows.{cases_slot}
use Rattle.event_order.proofs.Sums.{upto_most, upto_one, upto_same, upto_some, upto_zero}

-- one term more
pub upto_more : (f : ℕ → ℕ) (n : ℕ) → upto f (n + 1) ≡ upto f n + f n
upto_more f n = rw add-one refl

-- how long a part of a list is
pub part_length : {X : Type 0} (xs : List X) (from to : ℕ) → length (slice_range xs from to) ≡ min (to - from) (length xs - from)
part_length xs from to = length-take (to - from) (drop from xs) ∙ ap (min (to - from)) (length-drop from xs)

-- a slot is the one that it is
pub given_same : (slot : Slot) → is_given (Some slot) slot ≡ 1
given_same slot = elim (cases_slot slot slot) [
  | inl same ↦ let test : same_slot slot slot ≡ true = same.1 in rw test refl
  | inr apart ↦ absurd (apart.0 refl)
]

-- and it alone
pub given_some : (given : Option Slot) (slot : Slot) → 0 < is_given given slot → given ≡ Some slot
given_some None slot some = absurd (omega arith)
given_some (Some given) slot some = elim (cases_slot given slot) [
  | inl same ↦ ap (λ s. Some s) same.0
  | inr apart ↦ absurd (let test : same_slot given slot ≡ false = apart.1 in let none : is_given (Some given) slot ≡ 0 = rw test refl in omega arith)
]

-- a slot counts once
pub given_once : (given : Option Slot) (slot : Slot) → is_given given slot ≤ 1
given_once None slot = omega arith
given_once (Some given) slot = elim (cases_slot given slot) [
  | inl same ↦ let test : same_slot given slot ≡ true = same.1 in let one : is_given (Some given) slot ≡ 1 = rw test refl in omega arith
  | inr apart ↦ let test : same_slot given slot ≡ false = apart.1 in let none : is_given (Some given) slot ≡ 0 = rw test refl in omega arith
]

module _ (rows : List (List Deed)) where
  -- a deed that is there fills its slot
  pub gives_deed : (at : Place) (deed : Deed) → deed_at rows at ≡ Some deed → gives_at rows at ≡ gives_of deed
  gives_deed at deed there = ap (option_and_then gives_of) there

  -- also where its place is known by another number
  pub gives_there : (thread n place : ℕ) (deed : Deed) → n ≡ place → deed_at rows (record { thread = thread; place = place }) ≡ Some deed → gives_at rows (record { thread = thread; place = n }) ≡ gives_of deed
  gives_there thread n place deed same there = gives_deed (record { thread = thread; place = n }) deed (ap (λ k. deed_at rows (record { thread = thread; place = k })) same ∙ there)

  -- what stands is not awaited
  pub awaited_stood : (done : ℕ → ℕ) (slot : Slot) (thread i : ℕ) → i < done thread → awaited rows done slot thread i ≡ 0
  awaited_stood done slot thread i small = let test : ltb i (done thread) ≡ true = lt-ltb i (done thread) small in rw test refl

  -- and the rest is
  pub awaited_left : (done : ℕ → ℕ) (slot : Slot) (thread i : ℕ) → done thread ≤ i → awaited rows done slot thread i ≡ is_given (gives_at rows (record { thread = thread; place = i })) slot
  awaited_left done slot thread i large = let test : ltb i (done thread) ≡ false = le-ltb i (done thread) large in rw test refl

  -- a deed counts once
  pub awaited_once : (done : ℕ → ℕ) (slot : Slot) (thread i : ℕ) → awaited rows done slot thread i ≤ 1
  awaited_once done slot thread i = elim (cases_lt i (done thread)) [
    | inl small ↦ let none = awaited_stood done slot thread i small in omega arith
    | inr large ↦ let same = awaited_left done slot thread i large in let once = given_once (gives_at rows (record { thread = thread; place = i })) slot in omega arith
  ]

  -- the first deeds of a thread count at most once each
  pub awaited_few : (done : ℕ → ℕ) (slot : Slot) (thread n : ℕ) → upto (awaited rows done slot thread) n ≤ n
  awaited_few done slot thread n = let most = upto_most (awaited rows done slot thread) n 1 (λ i small. awaited_once done slot thread i) in omega arith

  -- the first threads count so much at most
  pub waiting_few : (done : ℕ → ℕ) (slot : Slot) (n most : ℕ) → ((thread : ℕ) → size rows thread ≤ most) → upto (awaited_of rows done slot) n ≤ n * most
  waiting_few done slot n most small = upto_most (awaited_of rows done slot) n most (λ thread below. let few = awaited_few done slot thread (size rows thread) in let count = small thread in omega arith)

  -- the deeds of a thread before a place count at most once each
  pub tallied_few : (place : ℕ) (slot : Slot) (thread most : ℕ) → size rows thread ≤ most → tallied rows place slot thread ≤ most
  tallied_few place slot thread most small =
      let few = awaited_few none_done slot thread (min place (size rows thread)) in
      let cut = min-le_right place (size rows thread) in
      omega arith

  -- and so do those of the first threads
  pub tallied_most : (place : ℕ) (slot : Slot) (n most : ℕ) → ((thread : ℕ) → size rows thread ≤ most) → upto (tallied rows place slot) n ≤ n * most
  tallied_most place slot n most small = upto_most (tallied rows place slot) n most (λ thread below. tallied_few place slot thread most (small thread))

  -- before the first place there is none
  pub tallied_none : (slot : Slot) (n : ℕ) → upto (tallied rows 0 slot) n ≡ 0
  tallied_none slot n =
      let none = upto_most (tallied rows 0 slot) n 0 (λ thread below. let e : tallied rows 0 slot thread ≡ 0 = ap (upto (awaited rows none_done slot thread)) (zero-min (size rows thread)) in omega arith) in
      omega arith

  -- before a place behind the last of each thread there are all
  pub tallied_all : (place : ℕ) (slot : Slot) → ((thread : ℕ) → size rows thread ≤ place) → upto (tallied rows place slot) (length rows) ≡ waiting rows none_done slot
  tallied_all place slot past = upto_same (tallied rows place slot) (awaited_of rows none_done slot) (length rows) (λ thread below. ap (upto (awaited rows none_done slot thread)) (min-eq_right (past thread)))

  -- a part of the deeds of a thread
  module _ (from to thread : ℕ) (part : List Deed) (is : part ≡ slice_range (deeds_of rows thread) from to) (slot : Slot) where
    -- its length
    part_count : length part ≡ min (to - from) (size rows thread - from)
    part_count = ap length is ∙ part_length (deeds_of rows thread) from to

    -- it counts up to its end
    pub part_all : (i : ℕ) → from ≤ to → i ≡ length part → upto (awaited rows none_done slot thread) (min from (size rows thread) + i) ≡ tallied rows to slot thread
    part_all i order all = let count = part_count in ap (upto (awaited rows none_done slot thread)) (omega arith)

    -- it has no more deeds than the thread
    pub part_few : (i : ℕ) → i ≤ length part → upto (awaited rows none_done slot thread) (min from (size rows thread) + i) ≤ size rows thread
    part_few i small = let count = part_count in let few = awaited_few none_done slot thread (min from (size rows thread) + i) in omega arith

    -- one deed more of it
    pub part_more : (i : ℕ) (d : Deed) (given : Option Slot) → i < length part → given ≡ gives_of (get_or part i d) → upto (awaited rows none_done slot thread) (min from (size rows thread) + (i + 1)) ≡ upto (awaited rows none_done slot thread) (min from (size rows thread) + i) + is_given given slot
    part_more i d given small gives =
        let row = deeds_of rows thread in
        let f = awaited rows none_done slot thread in
        let start = min from (size rows thread) in
        let count = part_count in
        let place : min from (size rows thread) + i ≡ from + i = omega arith in
        let read : get_or row (from + i) d ≡ get_or part i d = sym (ap (λ xs. get_or xs i d) is ∙ (get_or-take (to - from) (drop from row) i d (omega arith) ∙ get_or-drop from row i d)) in
        let there = slice_get-get_or row (from + i) d (omega arith) ∙ ap Some read in
        let last : f (start + i) ≡ is_given given slot = awaited_left none_done slot thread (start + i) (omega arith) ∙ ap (λ g. is_given g slot) (gives_there thread (start + i) (from + i) (get_or part i d) place there ∙ sym gives) in
        let more = upto_more f (start + i) in
        let next : upto f (start + (i + 1)) ≡ upto f (start + i + 1) = ap (upto f) (omega arith) in
        omega arith

  -- a thread with a deed is one of the threads
  pub thread_there : (thread i : ℕ) → i < size rows thread → thread < length rows
  thread_there thread i small = elim (cases_lt thread (length rows)) [
    | inl there ↦ there
    | inr past ↦ absurd (let none : size rows thread ≡ 0 = ap length (get_or_past rows thread [] past) in omega arith)
  ]

  -- where a deed that remains fills the slot, some wait for it
  pub waiting_for : (done : ℕ → ℕ) (slot : Slot) (at : Place) → Gives rows done slot at → waiting rows done slot ≡ 0 → ⊥
  waiting_for done slot at gives none =
      let there : at.thread < length rows = thread_there at.thread at.place gives.remains.there in
      let row : awaited_of rows done slot at.thread ≡ 0 = upto_zero (awaited_of rows done slot) (length rows) at.thread none there in
      let term : awaited rows done slot at.thread at.place ≡ 0 = upto_zero (awaited rows done slot at.thread) (size rows at.thread) at.place row gives.remains.there in
      let left = awaited_left done slot at.thread at.place gives.remains.waits in
      let one : is_given (gives_at rows at) slot ≡ 1 = ap (λ g. is_given g slot) gives.gives ∙ given_same slot in
      omega arith

  -- and where some wait for a slot, a deed that remains fills it
  pub waited_for : (done : ℕ → ℕ) (slot : Slot) → 0 < waiting rows done slot → (at : Place) × Gives rows done slot at
  waited_for done slot some =
      let thread = upto_some (awaited_of rows done slot) (length rows) some in
      let place = upto_some (awaited rows done slot thread.0) (size rows thread.0) thread.2 in
      elim (cases_lt place.0 (done thread.0)) [
        | inl stands ↦ absurd (let none = awaited_stood done slot thread.0 place.0 stands in let above = place.2 in omega arith)
        | inr waits ↦ (
          record { thread = thread.0; place = place.0 },
          record {
            remains = record { there = place.1; waits = waits };
            gives = given_some (gives_at rows (record { thread = thread.0; place = place.0 })) slot (let same = awaited_left done slot thread.0 place.0 waits in let above = place.2 in omega arith);
          },
        )
      ]

  -- where one deed more of a thread stands, it alone is no longer awaited
  pub waiting_raised : (done new : ℕ → ℕ) (thread : ℕ) (slot : Slot) → IsRaised done thread new → done thread < size rows thread → waiting rows done slot ≡ waiting rows new slot + is_given (gives_at rows (record { thread = thread; place = done thread })) slot
  waiting_raised done new thread slot raised small =
      let others : (i : ℕ) → i ≢ done thread → awaited rows done slot thread i ≡ awaited rows new slot thread i = λ i apart. elim (cases_lt i (done thread)) [
        | inl before ↦ awaited_stood done slot thread i before ∙ sym (awaited_stood new slot thread i (let here = raised.here in omega arith))
        | inr after ↦ awaited_left done slot thread i after ∙ sym (awaited_left new slot thread i (let here = raised.here in above i after apart))
      ] in
      let row = upto_one (awaited rows done slot thread) (awaited rows new slot thread) (size rows thread) (done thread) small others in
      let was = awaited_left done slot thread (done thread) (omega arith) in
      let now = awaited_stood new slot thread (done thread) (let here = raised.here in omega arith) in
      let elsewhere : (t : ℕ) → t ≢ thread → awaited_of rows done slot t ≡ awaited_of rows new slot t = λ t apart.
      upto_same (awaited rows done slot t) (awaited rows new slot t) (size rows t) (λ i _. ap (λ n. Rattle.std.specs.Prelude.if◌then◌else◌ (ltb i n) 0 (is_given (gives_at rows (record { thread = t; place = i })) slot)) (sym (raised.others t apart))) in
      let all = upto_one (awaited_of rows done slot) (awaited_of rows new slot) (length rows) thread (thread_there thread (done thread) small) elsewhere in
      omega arith
    where
      above : (i : ℕ) → done thread ≤ i → i ≢ done thread → new thread ≤ i
      above i after apart = elim (cases_lt (done thread) i) [
        | inl more ↦ let here = raised.here in omega arith
        | inr less ↦ absurd (apart (omega arith))
      ]

  -- a front with one deed more
  pub front_raised : (counts new : Slot → ℕ) (done : List ℕ) (thread value : ℕ) → IsFront rows counts done → value ≡ done_of done thread → done_of done thread < size rows thread → ((slot : Slot) → counts slot ≡ new slot + is_given (gives_at rows (record { thread = thread; place = value })) slot) → IsFront rows new (slice_set done thread (value + 1))
  front_raised counts new done thread value front is small lowered = record {
    threads = length-set done thread (value + 1) ∙ front.threads;
    within = λ other. elim (cases_eq other thread) [
      | inl same ↦
          let here = get_or-set_same done thread (value + 1) 0 inside in
          let at : done_of (slice_set done thread (value + 1)) other ≡ done_of (slice_set done thread (value + 1)) thread = ap (done_of (slice_set done thread (value + 1))) same in
          let count : size rows other ≡ size rows thread = ap (size rows) same in
          omega arith
      | inr apart ↦ let same = get_or-set_other done thread other (value + 1) 0 apart in let old = front.within other in omega arith
    ];
    counts_are = λ slot.
        let change = waiting_raised (done_of done) (done_of (slice_set done thread (value + 1))) thread slot raised small in
        let now = front.counts_are slot in
        let less = lowered slot in
        let place : is_given (gives_at rows (record { thread = thread; place = value })) slot ≡ is_given (gives_at rows (record { thread = thread; place = done_of done thread })) slot = ap (λ n. is_given (gives_at rows (record { thread = thread; place = n })) slot) is in
        omega arith;
  }
    where
      inside : thread < length done
      inside = let there = thread_there thread (done_of done thread) small in let count = front.threads in omega arith

      raised : IsRaised (done_of done) thread (done_of (slice_set done thread (value + 1)))
      raised = record {
        here = get_or-set_same done thread (value + 1) 0 inside ∙ ap (λ n. n + 1) is;
        others = λ other apart. get_or-set_other done thread other (value + 1) 0 apart;
      }

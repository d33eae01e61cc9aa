-- Which threads may wait for a slot of a row, and what is known of the next deeds as some of them are looked at again.
use Rattle.std.proofs.Common.{◌≡◌, ℕ, ◌<◌, ◌≤◌, ◌⊎◌, List, [], ◌∷◌, ◌++◌, Some, None, length, get_or, set, sym, ◌∙◌, ap, subst, inl, inr, arith}
use Rattle.std.specs.Prelude.{Vec}
use Rattle.std.specs.Vec.{with_item}
use Rattle.std.proofs.lemmas.Bool.{cases_eq, cases_lt}
use Rattle.std.proofs.lemmas.Nat.Bits.{bit_at_ones}
use Rattle.stride_isa.specs.Limits.{thread_limit}
use Rattle.std.proofs.lemmas.List.{get_or_append_left, get_or-map, get_or_past, get_or_read, length-map, map-set, get_or_push, get_or-set_same, get_or-set_other, length_push}
use Rattle.event_order.specs.Fronts.{AreNexts, AreReady, AreWaiters, IsNextAt, done_of, next_of, waiters_of}
use Rattle.event_order.specs.Tables.{rows_of}
use Rattle.event_order.specs.declared.deed.Deed.{Deed}
use Rattle.event_order.specs.declared.front.Next.{Next}
use Rattle.event_order.specs.declared.front.Next.TheVariants.{Ready, Waits, Ended}
use Rattle.event_order.specs.declared.slot.Slot.{Slot}
use Rattle.event_order.specs.declared.thread_set.ThreadSet.{ThreadSet}
use Rattle.event_order.specs.ThreadSets.{Has, everyone}
use Rattle.event_order.proofs.Nexts.{next_either, next_tighter}
use Rattle.event_order.proofs.Rows.{cases_slot, put_here, put_other}

-- of a slot whose waiters are written anew, and of the others, those that might wait still may
pub kept_put : (rows : List (List ThreadSet)) (slot : Slot) (row : List ThreadSet) (now : ThreadSet) → slot.row < length rows → slot.number < length row → get_or rows slot.row [] ≡ row → ((other : ℕ) → Has (get_or row slot.number everyone) other → Has now other) → (at : Slot) (other : ℕ) → Has (waiters_of rows at) other → Has (waiters_of (set rows slot.row (set row slot.number now)) at) other
kept_put rows slot row now there within same kept at other may = elim (cases_slot slot at) [
  | inl equal ↦
      let P : Slot → Type 0 = λ s. Has (waiters_of (set rows slot.row (set row slot.number now)) s) other in
      let Q : ThreadSet → Type 0 = λ w. Has w other in
      let was : Has (waiters_of rows slot) other = (let R : Slot → Type 0 = λ s. Has (waiters_of rows s) other in subst R (sym equal.0) may) in
      let known : Has (get_or row slot.number everyone) other = subst (λ (r : List ThreadSet). Has (get_or r slot.number everyone) other) same was in
      subst P equal.0 (subst Q (sym (put_here rows slot row everyone now there within)) (kept other known))
  | inr apart ↦
      let Q : ThreadSet → Type 0 = λ w. Has w other in
      subst Q (sym (put_other rows slot row everyone now there (λ i. ap (λ r. get_or r i everyone) (sym same)) at apart.1)) may
]

-- the same where the rows are vectors
module _ {Z : Type 0} (rows : List (Vec ThreadSet Z)) (slot : Slot) (row : Vec ThreadSet Z) (now : ThreadSet) (there : slot.row < length rows) (read : row ≡ get_or rows slot.row row) (within : slot.number < length row.items) where
  same : get_or (rows_of rows) slot.row [] ≡ row.items
  same = get_or-map (λ r. r.items) rows slot.row row [] there ∙ ap (λ r. r.items) (sym read)

  inside : slot.row < length (rows_of rows)
  inside = simp length-map there

  written : rows_of (set rows slot.row (with_item row slot.number now)) ≡ set (rows_of rows) slot.row (set row.items slot.number now)
  written = map-set (λ r. r.items) rows slot.row (with_item row slot.number now)

  pub kept_note : (known : ThreadSet) → known ≡ get_or row.items slot.number known → ((other : ℕ) → Has known other → Has now other) → (at : Slot) (other : ℕ) → Has (waiters_of (rows_of rows) at) other → Has (waiters_of (rows_of (set rows slot.row (with_item row slot.number now))) at) other
  kept_note known is kept at other may =
      let value : known ≡ get_or row.items slot.number everyone = get_or_read row.items slot.number known within is everyone in
      let P : List (List ThreadSet) → Type 0 = λ t. Has (waiters_of t at) other in
      subst P (sym written) (kept_put (rows_of rows) slot row.items now inside within same (λ o m. kept o (subst (λ (w : ThreadSet). Has w o) (sym value) m)) at other may)

  -- and the one that is noted may
  pub noted_note : (thread : ℕ) → Has now thread → Has (waiters_of (rows_of (set rows slot.row (with_item row slot.number now))) slot) thread
  noted_note thread may =
      let P : List (List ThreadSet) → Type 0 = λ t. Has (waiters_of t slot) thread in
      let Q : ThreadSet → Type 0 = λ w. Has w thread in
      subst P (sym written) (subst Q (sym (put_here (rows_of rows) slot row.items everyone now inside within)) may)

-- one thread waits for something else, and that is noted: each of the others that waits was noted before
pub waiters_put : (nexts : List Next) (old new : List (List ThreadSet)) (thread : ℕ) (next : Next) → thread < length nexts → ((at : Slot) (other : ℕ) → Has (waiters_of old at) other → Has (waiters_of new at) other) → ((slot : Slot) → next ≡ Waits slot → Has (waiters_of new slot) thread) → AreWaiters nexts old → AreWaiters (set nexts thread next) new
waiters_put nexts old new thread next there kept noted are other slot is = elim (cases_eq other thread) [
  | inl same ↦ subst (Has (waiters_of new slot)) (sym same) (noted slot (sym (get_or-set_same nexts thread next Ended there) ∙ (ap (next_of (set nexts thread next)) (sym same) ∙ is)))
  | inr apart ↦ kept slot other (are other slot (sym (get_or-set_other nexts thread other next Ended apart) ∙ is))
]

-- one thread more
pub waiters_push : (nexts : List Next) (old new : List (List ThreadSet)) (next : Next) → ((at : Slot) (other : ℕ) → Has (waiters_of old at) other → Has (waiters_of new at) other) → ((slot : Slot) → next ≡ Waits slot → Has (waiters_of new slot) (length nexts)) → AreWaiters nexts old → AreWaiters (nexts ++ next ∷ []) new
waiters_push nexts old new next kept noted are other slot is = elim (cases_lt other (length nexts)) [
  | inl before ↦ kept slot other (are other slot (sym (get_or_append_left nexts (next ∷ []) Ended other before) ∙ is))
  | inr after ↦ elim (cases_eq other (length nexts)) [
    | inl same ↦ subst (Has (waiters_of new slot)) (sym same) (noted slot (sym (get_or_push nexts next Ended other (sym same)) ∙ is))
    | inr apart ↦ let none : next_of (nexts ++ next ∷ []) other ≡ Ended = get_or_past (nexts ++ next ∷ []) other Ended (more after apart) in let both : Ended ≡ Waits slot = sym none ∙ is in absurd cc
  ]
]
  where
    more : length nexts ≤ other → (other ≡ length nexts → ⊥) → length (nexts ++ next ∷ []) ≤ other
    more after apart = elim (cases_lt (length nexts) other) [
      | inl less ↦ let count = length_push nexts next in omega arith
      | inr equal ↦ absurd (apart (omega arith))
    ]

-- any thread may wait for a slot of which nothing is kept
pub anyone : (thread : ℕ) → thread < thread_limit → Has everyone thread
anyone thread small = (small, bit_at_ones 16 thread small)

pub anyone_past : (rows : List (List ThreadSet)) (slot : Slot) (thread : ℕ) → thread < thread_limit → length rows ≤ slot.row → Has (waiters_of rows slot) thread
anyone_past rows slot thread small past =
    let Q : List ThreadSet → Type 0 = λ row. Has (get_or row slot.number everyone) thread in
    subst Q (sym (get_or_past rows slot.row [] past)) (anyone thread small)

-- also where its row is there
pub anyone_within : {Z : Type 0} (rows : List (Vec ThreadSet Z)) (slot : Slot) (row : Vec ThreadSet Z) (thread : ℕ) → thread < thread_limit → slot.row < length rows → length row.items ≤ slot.number → Has (waiters_of (rows_of (set rows slot.row row)) slot) thread
anyone_within rows slot row thread small there past =
    let P : List (List ThreadSet) → Type 0 = λ all. Has (waiters_of all slot) thread in
    let Q : List ThreadSet → Type 0 = λ numbers. Has (get_or numbers slot.number everyone) thread in
    let R : ThreadSet → Type 0 = λ set. Has set thread in
    let inside : slot.row < length (rows_of rows) = simp length-map there in
    subst P (sym (map-set (λ r. r.items) rows slot.row row))
    (subst Q (sym (get_or-set_same (rows_of rows) slot.row row.items [] inside))
    (subst R (sym (get_or_past row.items slot.number everyone past)) (anyone thread small)))

-- one thread waits for something else: it is ready, and the others are as before
pub ready_put : (nexts : List Next) (thread : ℕ) (deed : Deed) (old new : ThreadSet) → thread < length nexts → Has new thread → ((other : ℕ) → Has old other → Has new other) → ((other : ℕ) → Has new other → (other ≡ thread → ⊥) → Has old other) → AreReady nexts old → AreReady (set nexts thread (Ready deed)) new
ready_put nexts thread deed old new there here kept only are = record {
  has = λ other other_deed is. elim (cases_eq other thread) [
    | inl same ↦ subst (Has new) (sym same) here
    | inr apart ↦ kept other (are.has other other_deed (sym (get_or-set_other nexts thread other (Ready deed) Ended apart) ∙ is))
  ];
  only = λ other has. elim (cases_eq other thread) [
    | inl same ↦ (deed, ap (next_of (set nexts thread (Ready deed))) same ∙ get_or-set_same nexts thread (Ready deed) Ended there)
    | inr apart ↦ let found = are.only other (only other has apart) in (found.0, get_or-set_other nexts thread other (Ready deed) Ended apart ∙ found.1)
  ];
}

-- or it isn't
pub unready_put : (nexts : List Next) (thread : ℕ) (now : Next) (old new : ThreadSet) → thread < length nexts → ((deed : Deed) → now ≡ Ready deed → ⊥) → (Has new thread → ⊥) → ((other : ℕ) → Has old other → (other ≡ thread → ⊥) → Has new other) → ((other : ℕ) → Has new other → Has old other) → AreReady nexts old → AreReady (set nexts thread now) new
unready_put nexts thread now old new there not gone kept only are = record {
  has = λ other deed is. elim (cases_eq other thread) [
    | inl same ↦ absurd (not deed (sym (get_or-set_same nexts thread now Ended there) ∙ (ap (next_of (set nexts thread now)) (sym same) ∙ is)))
    | inr apart ↦ kept other (are.has other deed (sym (get_or-set_other nexts thread other now Ended apart) ∙ is)) apart
  ];
  only = λ other has. elim (cases_eq other thread) [
    | inl same ↦ absurd (gone (subst (Has new) same has))
    | inr apart ↦ let found = are.only other (only other has) in (found.0, get_or-set_other nexts thread other now Ended apart ∙ found.1)
  ];
}

module _ (rows : List (List Deed)) (counts : Slot → ℕ) (done : List ℕ) (emptied : Slot) where
  -- what is known of the next deed of a thread, where it may still be that it waits for the slot which has got empty; then the
  -- thread is in the set
  abbrev pub IsKnown : List Next → ThreadSet → ℕ → Type 0
  IsKnown nexts left thread = IsNextAt rows counts None (record { thread = thread; place = done_of done thread }) (next_of nexts thread) ⊎ (Has left thread × IsNextAt rows counts (Some emptied) (record { thread = thread; place = done_of done thread }) (next_of nexts thread))

  -- before any is looked at again
  pub known_first : (nexts : List Next) (left : ThreadSet) → ((thread : ℕ) → next_of nexts thread ≡ Waits emptied → Has left thread) → AreNexts rows counts (Some emptied) done nexts → (thread : ℕ) → thread < length rows → IsKnown nexts left thread
  known_first nexts left waiters are thread small = elim (next_either rows counts emptied (record { thread = thread; place = done_of done thread }) (next_of nexts thread) (are.each thread small)) [
    | inl known ↦ inl known
    | inr waits ↦ inr (waiters thread waits, are.each thread small)
  ]

  -- one thread is passed over, since it doesn't wait for the slot
  pub known_passed : (nexts : List Next) (left less : ThreadSet) (thread : ℕ) → ((other : ℕ) → Has left other → (other ≡ thread → ⊥) → Has less other) → (thread < length rows → next_of nexts thread ≡ Waits emptied → ⊥) → ((other : ℕ) → other < length rows → IsKnown nexts left other) → (other : ℕ) → other < length rows → IsKnown nexts less other
  known_passed nexts left less thread kept not known other small = elim (known other small) [
    | inl is ↦ inl is
    | inr is ↦ elim (cases_eq other thread) [
      | inl same ↦ inl (next_tighter rows counts emptied (record { thread = other; place = done_of done other }) (next_of nexts other) (λ waits. not (subst (λ t. t < length rows) same small) (ap (next_of nexts) (sym same) ∙ waits)) is.1)
      | inr apart ↦ inr (kept other is.0 apart, is.1)
    ]
  ]

  -- one thread is looked at again
  pub known_again : (nexts : List Next) (left less : ThreadSet) (thread : ℕ) (now : Next) → thread < length nexts → ((other : ℕ) → Has left other → (other ≡ thread → ⊥) → Has less other) → IsNextAt rows counts None (record { thread = thread; place = done_of done thread }) now → ((other : ℕ) → other < length rows → IsKnown nexts left other) → (other : ℕ) → other < length rows → IsKnown (set nexts thread now) less other
  known_again nexts left less thread now there kept is known other small = elim (cases_eq other thread) [
    | inl same ↦
        let P : ℕ → Type 0 = λ t. IsNextAt rows counts None (record { thread = t; place = done_of done t }) (next_of (set nexts thread now) t) in
        let R : Next → Type 0 = λ x. IsNextAt rows counts None (record { thread = thread; place = done_of done thread }) x in
        inl (subst P (sym same) (subst R (sym (get_or-set_same nexts thread now Ended there)) is))
    | inr apart ↦
        let R : Next → Type 0 = λ x. IsNextAt rows counts None (record { thread = other; place = done_of done other }) x in
        let Q : Next → Type 0 = λ x. IsNextAt rows counts (Some emptied) (record { thread = other; place = done_of done other }) x in
        let same = sym (get_or-set_other nexts thread other now Ended apart) in
        elim (known other small) [
          | inl was ↦ inl (subst R same was)
          | inr was ↦ inr (kept other was.0 apart, subst Q same was.1)
        ]
  ]

  -- once none is left
  pub known_all : (nexts : List Next) (left : ThreadSet) → length nexts ≡ length rows → ((thread : ℕ) → Has left thread → ⊥) → ((thread : ℕ) → thread < length rows → IsKnown nexts left thread) → AreNexts rows counts None done nexts
  known_all nexts left count none known = record {
    count = count;
    each = λ thread small. elim (known thread small) [
      | inl is ↦ is
      | inr is ↦ absurd (none thread is.0)
    ];
  }

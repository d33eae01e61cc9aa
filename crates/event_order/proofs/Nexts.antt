-- What is kept of the next deed of each thread, as one deed more stands.
use Rattle.std.proofs.Common.{◌≡◌, ℕ, ◌+◌, ◌<◌, ◌⊎◌, List, [], ◌∷◌, ◌++◌, Option, Some, None, length, set, refl, sym, ◌∙◌, ap, subst, inl, inr, arith}
use Rattle.std.proofs.lemmas.Bool.{cases_eq, cases_lt}
use Rattle.std.proofs.lemmas.List.{get_or_append_left, get_or_push, get_or-set_same, get_or-set_other, length-set}
use Rattle.interleavings.specs.declared.traces.Place.{Place}
use Rattle.event_order.specs.Deeds.{Needs}
use Rattle.event_order.specs.Fronts.{AreNexts, IsNextAt, IsReady, done_of, next_of}
use Rattle.event_order.specs.Tables.{is_given}
use Rattle.event_order.specs.declared.deed.Deed.{Deed}
use Rattle.event_order.specs.declared.front.Next.{Next}
use Rattle.event_order.specs.declared.front.Next.TheVariants.{Ready, Waits, Ended}
use Rattle.event_order.specs.declared.slot.Slot.{Slot}
use Rattle.event_order.proofs.Waiting.{given_some}

module _ (rows : List (List Deed)) where
  -- a deed still waits for the same where a slot is counted once less, but maybe for that
  pub next_lowered : (old new : Slot → ℕ) (given emptied : Option Slot) (at : Place) (next : Next) → ((slot : Slot) → old slot ≡ new slot + is_given given slot) → ((slot : Slot) → given ≡ Some slot → new slot ≡ 0 → emptied ≡ Some slot) → IsNextAt rows old None at next → IsNextAt rows new emptied at next
  next_lowered old new given emptied at (Ready deed) less empties is = (is.0, λ slot needs. let none = is.1 slot needs in let count = less slot in omega arith)
  next_lowered old new given emptied at (Waits slot) less empties (needs, inr none) = absurd cc
  next_lowered old new given emptied at (Waits slot) less empties (needs, inl some) = (
    needs,
    elim (cases_lt 0 (new slot)) [
      | inl more ↦ inl more
      | inr none ↦ let count = less slot in inr (empties slot (given_some given slot (omega arith)) (omega arith))
    ],
  )
  next_lowered old new given emptied at Ended less empties is = is

  -- what is known of a deed where no slot has got empty is known where one has
  pub next_looser : (counts : Slot → ℕ) (emptied : Option Slot) (at : Place) (next : Next) → IsNextAt rows counts None at next → IsNextAt rows counts emptied at next
  next_looser counts emptied at (Ready deed) is = is
  next_looser counts emptied at (Waits slot) (needs, inr none) = absurd cc
  next_looser counts emptied at (Waits slot) (needs, inl some) = (needs, inl some)
  next_looser counts emptied at Ended is = is

  -- where one has got empty, a deed waits for that or for what it would wait for otherwise
  pub next_either : (counts : Slot → ℕ) (emptied : Slot) (at : Place) (next : Next) → IsNextAt rows counts (Some emptied) at next → IsNextAt rows counts None at next ⊎ (next ≡ Waits emptied)
  next_either counts emptied at (Ready deed) is = inl is
  next_either counts emptied at (Waits slot) (needs, inl some) = inl (needs, inl some)
  next_either counts emptied at (Waits slot) (needs, inr same) = inr (let equal : emptied ≡ slot = cc in ap (λ s. Waits s) (sym equal))
  next_either counts emptied at Ended is = inl is

  -- and the other way round for a deed that doesn't wait for that slot
  pub next_tighter : (counts : Slot → ℕ) (emptied : Slot) (at : Place) (next : Next) → (next ≡ Waits emptied → ⊥) → IsNextAt rows counts (Some emptied) at next → IsNextAt rows counts None at next
  next_tighter counts emptied at (Ready deed) apart is = is
  next_tighter counts emptied at (Waits slot) apart (needs, inl some) = (needs, inl some)
  next_tighter counts emptied at (Waits slot) apart (needs, inr same) = absurd (apart (let equal : emptied ≡ slot = cc in ap (λ s. Waits s) (sym equal)))
  next_tighter counts emptied at Ended apart is = is

  -- a deed that waits for a slot keeps its thread from being ready
  pub not_ready : (counts : Slot → ℕ) (done : ℕ → ℕ) (thread : ℕ) (next : Next) → ((deed : Deed) → next ≡ Ready deed → ⊥) → IsNextAt rows counts None (record { thread = thread; place = done thread }) next → IsReady rows counts done thread → ⊥
  not_ready counts done thread (Ready deed) other is ready = other deed refl
  not_ready counts done thread (Waits slot) other (needs, inr none) ready = absurd cc
  not_ready counts done thread (Waits slot) other (needs, inl some) ready =
      let same : needs.deed ≡ ready.deed = (let both : Some needs.deed ≡ Some ready.deed = sym needs.there ∙ ready.next in cc) in
      let free : counts slot ≡ 0 = ready.free slot (subst (λ (d : Deed). Needs d slot) same needs.needs) in
      omega arith
  not_ready counts done thread Ended other is ready = let both : None ≡ Some ready.deed = sym is ∙ ready.next in cc

  -- a thread whose next deed waits for nothing is ready
  pub is_ready : (counts : Slot → ℕ) (done : ℕ → ℕ) (thread : ℕ) (deed : Deed) → IsNextAt rows counts None (record { thread = thread; place = done thread }) (Ready deed) → IsReady rows counts done thread
  is_ready counts done thread deed is = record { deed = deed; next = is.0; free = is.1 }

  -- one deed more of a thread stands, and what its next deed waits for is known
  pub nexts_stood : (old new : Slot → ℕ) (given emptied : Option Slot) (done : List ℕ) (nexts : List Next) (thread value : ℕ) (next : Next) → length done ≡ length rows → thread < length rows → ((slot : Slot) → old slot ≡ new slot + is_given given slot) → ((slot : Slot) → given ≡ Some slot → new slot ≡ 0 → emptied ≡ Some slot) → AreNexts rows old None done nexts → IsNextAt rows new None (record { thread = thread; place = value }) next → AreNexts rows new emptied (set done thread value) (set nexts thread next)
  nexts_stood old new given emptied done nexts thread value next threads there less empties are is = record {
    count = length-set nexts thread next ∙ are.count;
    each = λ other small. elim (cases_eq other thread) [
      | inl same ↦
          let P : ℕ → Type 0 = λ t. IsNextAt rows new emptied (record { thread = t; place = done_of (set done thread value) t }) (next_of (set nexts thread next) t) in
          let Q : ℕ → Type 0 = λ n. IsNextAt rows new emptied (record { thread = thread; place = n }) next in
          let R : Next → Type 0 = λ x. IsNextAt rows new emptied (record { thread = thread; place = done_of (set done thread value) thread }) x in
          subst P (sym same)
          (subst R (sym (get_or-set_same nexts thread next Ended (let count = are.count in omega arith)))
          (subst Q (sym (get_or-set_same done thread value 0 (omega arith))) (next_looser new emptied (record { thread = thread; place = value }) next is)))
      | inr apart ↦
          let Q : ℕ → Type 0 = λ n. IsNextAt rows new emptied (record { thread = other; place = n }) (next_of (set nexts thread next) other) in
          let R : Next → Type 0 = λ x. IsNextAt rows new emptied (record { thread = other; place = done_of done other }) x in
          subst Q (sym (get_or-set_other done thread other value 0 apart))
          (subst R (sym (get_or-set_other nexts thread other next Ended apart))
          (next_lowered old new given emptied (record { thread = other; place = done_of done other }) (next_of nexts other) less empties (are.each other small)))
    ];
  }

  -- what one more thread's next deed waits for
  pub nexts_more : (counts : Slot → ℕ) (done : ℕ → ℕ) (nexts : List Next) (n : ℕ) (next : Next) → length nexts ≡ n → ((other : ℕ) → other < n → IsNextAt rows counts None (record { thread = other; place = done other }) (next_of nexts other)) → IsNextAt rows counts None (record { thread = n; place = done n }) next → (other : ℕ) → other < n + 1 → IsNextAt rows counts None (record { thread = other; place = done other }) (next_of (nexts ++ next ∷ []) other)
  nexts_more counts done nexts n next count known is other small = elim (cases_lt other n) [
    | inl before ↦
        let R : Next → Type 0 = λ x. IsNextAt rows counts None (record { thread = other; place = done other }) x in
        subst R (sym (get_or_append_left nexts (next ∷ []) Ended other (omega arith))) (known other before)
    | inr last ↦
        let here : n ≡ other = omega arith in
        let P : ℕ → Type 0 = λ t. IsNextAt rows counts None (record { thread = t; place = done t }) (next_of (nexts ++ next ∷ []) t) in
        let R : Next → Type 0 = λ x. IsNextAt rows counts None (record { thread = n; place = done n }) x in
        subst P here (subst R (sym (get_or_push nexts next Ended n count)) is)
  ]

  -- and a thread that is ready is known to be
  pub known_ready : (counts : Slot → ℕ) (done : ℕ → ℕ) (thread : ℕ) (next : Next) → IsNextAt rows counts None (record { thread = thread; place = done thread }) next → IsReady rows counts done thread → (deed : Deed) × (next ≡ Ready deed)
  known_ready counts done thread (Ready deed) is ready = (deed, refl)
  known_ready counts done thread (Waits slot) is ready = absurd (not_ready counts done thread (Waits slot) (λ deed same. cc) is ready)
  known_ready counts done thread Ended is ready = absurd (not_ready counts done thread Ended (λ deed same. cc) is ready)

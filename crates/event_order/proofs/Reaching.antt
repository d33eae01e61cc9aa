-- The least order goes on until no thread is ready any more.
use Rattle.std.proofs.Common.{◌≡◌, ℕ, zero, suc, ◌+◌, ◌-◌, ◌<◌, List, [], ◌∷◌, ◌++◌, Option, Some, None, length, map, refl, sym, ◌∙◌, ap, subst, inl, inr, arith}
use Rattle.std.proofs.Math.ListN.{get_or-map}
use Rattle.std.specs.Prelude.{slice_set}
use Rattle.std.proofs.lemmas.Bool.{cases_lt}
use Rattle.std.proofs.lemmas.List.{get_or-set_same, get_or-set_other, length-map}
use Rattle.interleavings.specs.declared.traces.Place.{Place}
use Rattle.event_order.proofs.Deciding.{Known, least_below}
use Rattle.event_order.specs.Deeds.{Needs, deed_at, needs_of, needs_too_of, size}
use Rattle.event_order.specs.Fronts.{IsExtended, IsFront, IsKept, IsRaised, IsReady, done_of, waiting}
use Rattle.event_order.specs.Sums.{upto}
use Rattle.event_order.specs.declared.deed.Deed.{Deed}
use Rattle.event_order.specs.declared.slot.Slot.{Slot}
use Rattle.event_order.proofs.Greedy.{kept_more, kept_start, next_there, rest_falls}
use Rattle.event_order.proofs.Waiting.{front_raised, waiting_raised}

module _ (counts : Slot → ℕ) where
  -- nothing waits for the slot, if there is one
  abbrev IsFree : Option Slot → Type 0
  IsFree given = (slot : Slot) → given ≡ Some slot → counts slot ≡ 0

  -- that is so or not
  known_free : (given : Option Slot) → Known (IsFree given)
  known_free None = inl (λ slot is. absurd cc)
  known_free (Some given) = elim (cases_lt 0 (counts given)) [
    | inl some ↦ inr (λ free. let none = free given refl in omega arith)
    | inr none ↦ inl (λ slot is. let same : given ≡ slot = cc in let count : counts given ≡ counts slot = ap counts same in omega arith)
  ]

  -- a thread is ready or not
  known_ready : (rows : List (List Deed)) (done : ℕ → ℕ) (thread : ℕ) → Known (IsReady rows counts done thread)
  known_ready rows done thread = of_deed (deed_at rows next) refl
    where
      next : Place
      next = record { thread = thread; place = done thread }

      of_deed : (found : Option Deed) → deed_at rows next ≡ found → Known (IsReady rows counts done thread)
      of_deed None there = inr (λ ready. let is : deed_at rows next ≡ Some ready.deed = ready.next in absurd cc)
      of_deed (Some deed) there = elim (known_free (needs_of deed)) [
        | inr waits ↦ inr (λ ready. waits (λ slot is. ready.free slot (let same : deed ≡ ready.deed = (let both : Some deed ≡ Some ready.deed = sym there ∙ ready.next in cc) in subst (λ (d : Deed). Needs d slot) same (inl is))))
        | inl free ↦ elim (known_free (needs_too_of deed)) [
          | inr waits ↦ inr (λ ready. waits (λ slot is. ready.free slot (let same : deed ≡ ready.deed = (let both : Some deed ≡ Some ready.deed = sym there ∙ ready.next in cc) in subst (λ (d : Deed). Needs d slot) same (inr is))))
          | inl free_too ↦ inl (record { deed = deed; next = there; free = λ slot needs. elim needs [ inl is ↦ free slot is | inr is ↦ free_too slot is ] })
        ]
      ]

module _ (rows : List (List Deed)) where
  -- how many deeds don't stand
  abbrev rest : List ℕ → ℕ
  rest done = upto (λ t. size rows t - done_of done t) (length rows)

  -- an order as far as it goes
  pub record Reached : Type 0 where
    pub done : List ℕ
    pub order : List ℕ
    pub extended : IsExtended rows done order

  -- one deed more of a thread stands
  raised_set : (done : List ℕ) (thread : ℕ) → thread < length done → IsRaised (done_of done) thread (done_of (slice_set done thread (done_of done thread + 1)))
  raised_set done thread there = record {
    here = get_or-set_same done thread (done_of done thread + 1) 0 there;
    others = λ other apart. get_or-set_other done thread other (done_of done thread + 1) 0 apart;
  }

  -- an order that is least so far goes on
  reach_on : (fuel : ℕ) (done order : List ℕ) → rest done < fuel → IsFront rows (waiting rows (done_of done)) done → IsKept rows (done_of done) order → Reached
  reach_on zero done order small front kept = absurd (omega arith)
  reach_on (suc fuel) done order small front kept =
      elim (least_below (IsReady rows (waiting rows (done_of done)) (done_of done)) (known_ready (waiting rows (done_of done)) rows (done_of done)) (length rows)) [
        | inr none ↦ record { done = done; order = order; extended = record { counts = waiting rows (done_of done); front = front; kept = kept; stopped = none } }
        | inl found ↦
            let thread = found.0 in
            let counts = waiting rows (done_of done) in
            let next : done_of done thread < size rows thread = next_there rows counts done front thread found.2.holds in
            let new = slice_set done thread (done_of done thread + 1) in
            let there : thread < length done = (let count = front.threads in let below = found.1 in omega arith) in
            let raised = raised_set done thread there in
            reach_on fuel new (order ++ thread ∷ [])
            (let falls = rest_falls rows (done_of done) (done_of new) thread raised next in omega arith)
            (front_raised rows counts (waiting rows (done_of new)) done thread (done_of done thread) front refl next (λ slot. waiting_raised rows (done_of done) (done_of new) thread slot raised next))
            (kept_more rows counts done thread (done_of new) order front found.2.holds found.2.none raised kept)
      ]

  -- where none stands
  abbrev zeros : List ℕ
  zeros = map (λ row. 0) rows

  -- none does
  zeros_are : (thread : ℕ) → done_of zeros thread ≡ 0
  zeros_are thread = get_or-map (λ row. 0) rows thread []

  -- the least order goes as far as it can
  pub reached : Reached
  reached = reach_on (rest zeros + 1) zeros [] (omega arith) (record {
    threads = length-map rows (λ row. 0);
    within = λ thread. let none = zeros_are thread in omega arith;
    counts_are = λ slot. refl;
  }) (kept_start rows (done_of zeros) zeros_are)

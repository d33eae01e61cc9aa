-- The thread that is taken next: the first whose next deed waits for nothing begins the least order from there.
use Rattle.std.proofs.Common.{◌≡◌, ℕ, ◌-◌, ◌<◌, ◌⊎◌, Bool, true, false, ◌&&◌, List, [], ◌∷◌, ◌++◌, Option, Some, None, length, get_or, refl, sym, ◌∙◌, ap, subst, inl, inr, arith}
use Rattle.std.proofs.Math.Path.{fun_ext}
use Rattle.std.specs.Prelude.{ltb, leb, option_and_then}
use Rattle.std.proofs.lemmas.List.{append-nil, append_assoc}
use Rattle.std.proofs.lemmas.Bool.{true≢false, cases_eq, cases_lt, cases_order, cases_Bool, le-ltb, lt-ltb, ltb-true, ltb-false, leb-true, le-leb, and_from, and_parts}
use Rattle.std.proofs.lemmas.Option.{slice_get_within, slice_get-get_or}
use Rattle.interleavings.specs.declared.traces.Place.{Place}
use Rattle.interleavings.specs.TraceLists.{TraceLists}
use Rattle.event_order.specs.Backs.{AllRemain, Fills, IsBefore, IsNext, Remains}
use Rattle.event_order.specs.Cycles.{IsLeft, IsStuck, Precedes}
use Rattle.event_order.specs.Deeds.{AreDeedsOf, Needs, NeedsAt, deed_at, deeds_of, gives_of, needs_of, needs_too_of, size}
use Rattle.event_order.specs.DirectOrder.{Direct, LinkRows}
use Rattle.event_order.specs.Extensions.{Extends, IsPlace, schedule_of, standing_too}
use Rattle.event_order.specs.Fronts.{IsFront, IsKept, IsRaised, IsReady, done_of, stood}
use Rattle.event_order.specs.Least.{IsLeast, IsLeastFrom, NotBehind}
use Rattle.event_order.specs.declared.deed.Deed.{Deed}
use Rattle.event_order.specs.declared.deed.Deed.TheVariants as deeds
use Rattle.event_order.specs.declared.slot.Slot.{Slot}
use Rattle.event_order.proofs.Places.{stands_now, stands_still, stood as stood_by, two_parts}
use Rattle.event_order.proofs.Preceding.{directly, has_place, place_has, precedes_from}
use Rattle.event_order.specs.Sums.{upto}
use Rattle.event_order.proofs.Sums.{upto_less}
use Rattle.event_order.proofs.Waiting.{thread_there, waited_for, waiting_for}

-- a test with one answer
same_test : (a b : Bool) → (a ≡ true → b ≡ true) → (b ≡ true → a ≡ true) → a ≡ b
same_test true true there back = refl
same_test true false there back = sym (there refl)
same_test false true there back = back refl
same_test false false there back = refl

-- where one deed more of a thread stands, its place stands too
pub raised_stands : (done new : ℕ → ℕ) (thread : ℕ) → IsRaised done thread new → standing_too (record { thread = thread; place = done thread }) (stood done) ≡ stood new
raised_stands done new thread raised = fun_ext (λ at. same_test _ _ (there at) (back at))
  where
    next : Place
    next = record { thread = thread; place = done thread }

    there : (at : Place) → standing_too next (stood done) at ≡ true → stood new at ≡ true
    there at up = elim (stood_by next at (stood done) up) [
      | inl same ↦
          let row : at.thread ≡ thread = sym (ap (λ (p : Place). p.thread) same) in
          let place : at.place ≡ done thread = sym (ap (λ (p : Place). p.place) same) in
          let count : new at.thread ≡ new thread = ap new row in
          lt-ltb at.place (new at.thread) (let here = raised.here in omega arith)
      | inr before ↦
          let small = ltb-true at.place (done at.thread) before in
          elim (cases_eq at.thread thread) [
            | inl row ↦ let count : new at.thread ≡ new thread = ap new row in let old : done at.thread ≡ done thread = ap done row in lt-ltb at.place (new at.thread) (let here = raised.here in omega arith)
            | inr apart ↦ let same = raised.others at.thread apart in lt-ltb at.place (new at.thread) (omega arith)
          ]
    ]

    back : (at : Place) → stood new at ≡ true → standing_too next (stood done) at ≡ true
    back at up =
        let small = ltb-true at.place (new at.thread) up in
        elim (cases_eq at.thread thread) [
          | inr apart ↦ let same = raised.others at.thread apart in stands_still next at (stood done) (lt-ltb at.place (done at.thread) (omega arith))
          | inl row ↦
              let count : new at.thread ≡ new thread = ap new row in
              let old : done at.thread ≡ done thread = ap done row in
              elim (cases_lt at.place (done at.thread)) [
                | inl before ↦ stands_still next at (stood done) (lt-ltb at.place (done at.thread) before)
                | inr after ↦ stands_now next at (stood done) (two_parts next at (sym row) (let here = raised.here in omega arith))
              ]
        ]

module _ (rows : List (List Deed)) (counts : Slot → ℕ) (done : List ℕ) (front : IsFront rows counts done) where
  -- the next deed of a ready thread
  pub next_there : (thread : ℕ) → IsReady rows counts (done_of done) thread → done_of done thread < size rows thread
  next_there thread ready = slice_get_within (deeds_of rows thread) (done_of done thread) ready.deed ready.next

  -- what has to come before the next deed of a ready thread stands
  pub ready_after : (thread : ℕ) → IsReady rows counts (done_of done) thread → (before : Place) → before.place < size rows before.thread → IsNext before (record { thread = thread; place = done_of done thread }) ⊎ Fills rows before (record { thread = thread; place = done_of done thread }) → stood (done_of done) before ≡ true
  ready_after thread ready before there (inl next) =
      let count : done_of done before.thread ≡ done_of done thread = ap (done_of done) next.thread in
      lt-ltb before.place (done_of done before.thread) (let place = next.place in omega arith)
  ready_after thread ready before there (inr fills) = elim (cases_lt before.place (done_of done before.thread)) [
    | inl stands ↦ lt-ltb before.place (done_of done before.thread) stands
    | inr waits ↦
        let deed : fills.needs.deed ≡ ready.deed = (let both : Some fills.needs.deed ≡ Some ready.deed = sym fills.needs.there ∙ ready.next in cc) in
        let free : counts fills.slot ≡ 0 = ready.free fills.slot (subst (λ (d : Deed). Needs d fills.slot) deed fills.needs.needs) in
        absurd (waiting_for rows (done_of done) fills.slot before (record { remains = record { there = there; waits = waits }; gives = fills.gives }) (sym (front.counts_are fills.slot) ∙ free))
  ]

  -- whether a slot is waited for
  slot_cases : (given : Option Slot) → ((slot : Slot) → given ≡ Some slot → counts slot ≡ 0) ⊎ ((slot : Slot) × (given ≡ Some slot) × (0 < counts slot))
  slot_cases None = inl (λ slot is. absurd cc)
  slot_cases (Some given) = elim (cases_lt 0 (counts given)) [
    | inl some ↦ inr (given, refl, some)
    | inr none ↦ inl (λ slot is. let same : given ≡ slot = cc in let count : counts given ≡ counts slot = ap counts same in omega arith)
  ]

  -- a deed fills a slot that is waited for
  filler : (slot : Slot) → 0 < counts slot → (at : Place) → NeedsAt rows at slot → (before : Place) × IsBefore rows (done_of done) at before
  filler slot some at needs =
      let found = waited_for rows (done_of done) slot (let count = front.counts_are slot in omega arith) in
      (found.0, record { remains = found.1.remains; directly = inr (record { slot = slot; gives = found.1.gives; needs = needs }) })

  -- where no thread is ready, the next deed of a thread has one before it that remains
  next_waits : ((thread : ℕ) → thread < length rows → IsReady rows counts (done_of done) thread → ⊥) → (at : Place) → (deed : Deed) → deed_at rows at ≡ Some deed → at.place ≡ done_of done at.thread → (before : Place) × IsBefore rows (done_of done) at before
  next_waits stopped at deed there here = elim (slot_cases (needs_of deed)) [
    | inr found ↦ filler found.0 found.2 at (record { deed = deed; there = there; needs = inl found.1 })
    | inl filled ↦ elim (slot_cases (needs_too_of deed)) [
      | inr found ↦ filler found.0 found.2 at (record { deed = deed; there = there; needs = inr found.1 })
      | inl filled_too ↦ absurd (stopped at.thread (thread_there rows at.thread at.place (slice_get_within (deeds_of rows at.thread) at.place deed there)) (record {
        deed = deed;
        next = ap (λ n. deed_at rows (record { thread = at.thread; place = n })) (sym here) ∙ there;
        free = λ slot needs. elim needs [ inl is ↦ filled slot is | inr is ↦ filled_too slot is ];
      }))
    ]
  ]

  -- and so has each deed that remains
  pub all_remain : ((thread : ℕ) → thread < length rows → IsReady rows counts (done_of done) thread → ⊥) → AllRemain rows (done_of done)
  all_remain stopped at remains = elim (cases_lt (done_of done at.thread) at.place) [
    | inl later ↦ (
      record { thread = at.thread; place = at.place - 1 },
      record {
        remains = record { there = (let there = remains.there in omega arith); waits = omega arith };
        directly = inl (record { thread = refl; place = omega arith });
      },
    )
    | inr first ↦
        next_waits stopped at (get_or (deeds_of rows at.thread) at.place (deeds.Exit 0 0)) (slice_get-get_or (deeds_of rows at.thread) at.place (deeds.Exit 0 0) remains.there) (let waits = remains.waits in omega arith)
  ]

-- what has to come before a deed is there
pub before_there : (rows : List (List Deed)) (before at : Place) → at.place < size rows at.thread → IsNext before at ⊎ Fills rows before at → before.place < size rows before.thread
before_there rows before at small (inl next) = let count : size rows before.thread ≡ size rows at.thread = ap (size rows) next.thread in let place = next.place in omega arith
before_there rows before at small (inr fills) = of_deed (deed_at rows before) refl fills.gives
  where
    of_deed : (found : Option Deed) → deed_at rows before ≡ found → option_and_then gives_of found ≡ Some fills.slot → before.place < size rows before.thread
    of_deed (Some deed) there is = slice_get_within (deeds_of rows before.thread) before.place deed there
    of_deed None there is = absurd cc

module _ (traces : TraceLists) (links : LinkRows) (rows : List (List Deed)) (are : AreDeedsOf traces links rows) where
  -- an event that doesn't stand remains
  pub remains_from : (done : ℕ → ℕ) (at : Place) → IsPlace traces at → stood done at ≡ false → Remains rows done at
  remains_from done at there waits = record { there = place_has traces links rows are at there; waits = ltb-false at.place (done at.thread) waits }

  -- and what remains doesn't stand
  pub remains_waits : (done : ℕ → ℕ) (at : Place) → Remains rows done at → stood done at ≡ false
  remains_waits done at remains = le-ltb at.place (done at.thread) remains.waits

  -- a deed that remains and has to come before another precedes it
  pub before_precedes : (done : ℕ → ℕ) (before at : Place) → at.place < size rows at.thread → IsBefore rows done at before → Precedes traces links before at
  before_precedes done before at small is = precedes_from traces links rows are before at is.remains.there small is.directly

  module _ (counts : Slot → ℕ) (done : List ℕ) (front : IsFront rows counts done) where
    -- direct predecessors of the next deed of a ready thread stand
    pub ready_direct : (thread : ℕ) → IsReady rows counts (done_of done) thread → (before : Place) → Direct traces links before (record { thread = thread; place = done_of done thread }) → stood (done_of done) before ≡ true
    ready_direct thread ready before direct =
        let next : Place = record { thread = thread; place = done_of done thread } in
        let ways = directly traces links rows are before next direct in
        ready_after rows counts done front thread ready before (before_there rows before next (next_there rows counts done front thread ready) ways) ways

    -- an event all of whose direct predecessors stand is the next of its thread
    first_next : (at : Place) → stood (done_of done) at ≡ false → ((before : Place) → Direct traces links before at → stood (done_of done) before ≡ true) → at.place ≡ done_of done at.thread
    first_next at fresh after = elim (cases_lt (done_of done at.thread) at.place) [
      | inr first ↦ (let waits = ltb-false at.place (done_of done at.thread) fresh in omega arith)
      | inl later ↦
          let earlier : Place = record { thread = at.thread; place = at.place - 1 } in
          absurd (let small = ltb-true earlier.place (done_of done at.thread) (after earlier (Direct.in_thread refl (omega arith))) in omega arith)
    ]

    -- and its thread is ready
    first_ready : (at : Place) → IsPlace traces at → at.place ≡ done_of done at.thread → ((before : Place) → Direct traces links before at → stood (done_of done) before ≡ true) → IsReady rows counts (done_of done) at.thread
    first_ready at there here after = record {
      deed = get_or (deeds_of rows at.thread) at.place (deeds.Exit 0 0);
      next = ap (λ n. deed_at rows (record { thread = at.thread; place = n })) (sym here) ∙ is;
      free = λ slot needs. elim (cases_lt 0 (counts slot)) [
        | inr none ↦ omega arith
        | inl some ↦
            let found = filler rows counts done front slot some at (record { deed = get_or (deeds_of rows at.thread) at.place (deeds.Exit 0 0); there = is; needs = needs }) in
            absurd (true≢false (sym (after found.0 (before_precedes (done_of done) found.0 at inside found.1).direct) ∙ remains_waits (done_of done) found.0 found.1.remains))
      ];
    }
      where
        inside : at.place < size rows at.thread
        inside = place_has traces links rows are at there

        is : deed_at rows at ≡ Some (get_or (deeds_of rows at.thread) at.place (deeds.Exit 0 0))
        is = slice_get-get_or (deeds_of rows at.thread) at.place (deeds.Exit 0 0) inside

    module _ (thread : ℕ) (new : ℕ → ℕ) (ready : IsReady rows counts (done_of done) thread) (none : (other : ℕ) → other < thread → IsReady rows counts (done_of done) other → ⊥) (raised : IsRaised (done_of done) thread new) where
      -- the next deed of the thread
      abbrev next : Place
      next = record { thread = thread; place = done_of done thread }

      -- it doesn't stand
      next_fresh : stood (done_of done) next ≡ false
      next_fresh = le-ltb (done_of done thread) (done_of done thread) (omega arith)

      -- it is an event
      next_place : IsPlace traces next
      next_place = has_place traces links rows are next (next_there rows counts done front thread ready)

      -- any other way on begins with no lesser thread
      no_lesser : (rest : List ℕ) → ((others : List Place) → Extends traces links (stood new) others → NotBehind rest (schedule_of others)) → (others : List Place) → Extends traces links (stood (done_of done)) others → NotBehind (thread ∷ rest) (schedule_of others)
      no_lesser rest least [] extends = absurd (true≢false (sym (extends next next_place) ∙ next_fresh))
      no_lesser rest least (at ∷ others) extends =
          let here : at.place ≡ done_of done at.thread = first_next at extends.1 extends.2 in
          elim (cases_order thread at.thread) [
            | inr (inl less) ↦ inl less
            | inr (inr more) ↦ absurd (none at.thread more (first_ready at extends.0 here extends.2))
            | inl same ↦
                let equal : at ≡ next = two_parts at next (sym same) (here ∙ ap (done_of done) (sym same)) in
                let P : Place → Type 0 = λ p. Extends traces links (standing_too p (stood (done_of done))) others in
                let Q : (Place → Bool) → Type 0 = λ stands. Extends traces links stands others in
                inr (same, least others (subst Q (raised_stands (done_of done) new thread raised) (subst P equal extends.3)))
          ]

      -- the thread begins the least order
      least_step : (rest : List ℕ) → IsLeastFrom traces links (stood new) rest → IsLeastFrom traces links (stood (done_of done)) (thread ∷ rest)
      least_step rest least = record {
        places = next ∷ least.places;
        extends = (next_place, next_fresh, ready_direct thread ready, (let Q : (Place → Bool) → Type 0 = λ stands. Extends traces links stands least.places in subst Q (sym (raised_stands (done_of done) new thread raised)) least.extends));
        of_places = ap (λ s. thread ∷ s) least.of_places;
        least = no_lesser rest least.least;
      }

      -- nothing of a set in which each has a direct predecessor comes to stand
      free_step : (set : Place → Bool) → IsStuck traces links set → ((at : Place) → set at ≡ true → stood (done_of done) at ≡ false) → (at : Place) → set at ≡ true → stood new at ≡ false
      free_step set stuck free at has = elim (cases_Bool (stood new at)) [
        | inr waits ↦ waits
        | inl stands ↦ elim (stood_by next at (stood (done_of done)) (ap (λ (f : Place → Bool). f at) (raised_stands (done_of done) new thread raised) ∙ stands)) [
          | inr before ↦ absurd (true≢false (sym before ∙ free at has))
          | inl same ↦
              let back = stuck next (ap set same ∙ has) in
              absurd (true≢false (sym (ready_direct thread ready back.0 back.1.direct) ∙ free back.0 back.2))
        ]
      ]

-- one thread more
pub kept_more : (rows : List (List Deed)) (counts : Slot → ℕ) (done : List ℕ) (thread : ℕ) (new : ℕ → ℕ) (order : List ℕ) → IsFront rows counts done → IsReady rows counts (done_of done) thread → ((other : ℕ) → other < thread → IsReady rows counts (done_of done) other → ⊥) → IsRaised (done_of done) thread new → IsKept rows (done_of done) order → IsKept rows new (order ++ thread ∷ [])
kept_more rows counts done thread new order front ready none raised kept = record {
  free = λ traces links are set stuck. free_step traces links rows are counts done front thread new ready none raised set stuck (kept.free traces links are set stuck);
  least = λ traces links are rest least. subst (IsLeast traces links) (sym (append_assoc order (thread ∷ []) rest)) (kept.least traces links are (thread ∷ rest) (least_step traces links rows are counts done front thread new ready none raised rest least));
}

-- what remains is less then
pub rest_falls : (rows : List (List Deed)) (done new : ℕ → ℕ) (thread : ℕ) → IsRaised done thread new → done thread < size rows thread → upto (λ t. size rows t - new t) (length rows) < upto (λ t. size rows t - done t) (length rows)
rest_falls rows done new thread raised small =
    upto_less (λ t. size rows t - new t) (λ t. size rows t - done t) (length rows) thread (thread_there rows thread (done thread) small)
    (λ t below. elim (cases_eq t thread) [
      | inl same ↦ let now : new t ≡ new thread = ap new same in let old : done t ≡ done thread = ap done same in let here = raised.here in omega arith
      | inr apart ↦ let same = raised.others t apart in omega arith
    ])
    (let here = raised.here in omega arith)

-- at the start
pub kept_start : (rows : List (List Deed)) (done : ℕ → ℕ) → ((thread : ℕ) → done thread ≡ 0) → IsKept rows done []
kept_start rows done start = record {
  free = λ traces links are set stuck at has. waits at;
  least = λ traces links are rest least.
      let Q : (Place → Bool) → Type 0 = λ stands. IsLeastFrom traces links stands rest in
      subst Q (fun_ext waits) least;
}
  where
    waits : (at : Place) → stood done at ≡ false
    waits at = le-ltb at.place (done at.thread) (let none = start at.thread in omega arith)

module _ (traces : TraceLists) (links : LinkRows) (rows : List (List Deed)) (are : AreDeedsOf traces links rows) (done : ℕ → ℕ) where
  -- where nothing remains the order is the least
  pub whole_order : (order : List ℕ) → IsKept rows done order → ((at : Place) → Remains rows done at → ⊥) → IsLeast traces links order
  whole_order order kept none = subst (IsLeast traces links) (append-nil order) (kept.least traces links are [] (record {
    places = [];
    extends = λ at there. elim (cases_Bool (stood done at)) [ inl stands ↦ stands | inr waits ↦ absurd (none at (remains_from traces links rows are done at there waits)) ];
    of_places = refl;
    least = λ others extends. tt;
  }))

  -- what remains, as a test
  abbrev remaining : Place → Bool
  remaining at = ltb at.place (size rows at.thread) && leb (done at.thread) at.place

  -- where each has one before it that remains, what remains is left
  pub left_from : AllRemain rows done → (at : Place) → Remains rows done at → IsLeft traces links at
  left_from all at remains = record { set = remaining; has = passes at remains; stuck = stuck }
    where
      passes : (at : Place) → Remains rows done at → remaining at ≡ true
      passes at remains = and_from (ltb at.place (size rows at.thread)) (leb (done at.thread) at.place) (lt-ltb at.place (size rows at.thread) remains.there) (le-leb (done at.thread) at.place remains.waits)

      back : (at : Place) → remaining at ≡ true → Remains rows done at
      back at has = let parts = and_parts (ltb at.place (size rows at.thread)) (leb (done at.thread) at.place) has in record { there = ltb-true at.place (size rows at.thread) parts.0; waits = leb-true (done at.thread) at.place parts.1 }

      stuck : IsStuck traces links remaining
      stuck at has =
          let here = back at has in
          let before = all at here in
          (before.0, before_precedes traces links rows are done before.0 at here.there before.1, passes before.0 before.1.remains)

  -- and nothing else is
  pub left_to : (order : List ℕ) → IsKept rows done order → (at : Place) → IsLeft traces links at → Remains rows done at
  left_to order kept at left =
      let before = left.stuck at left.has in
      remains_from traces links rows are done at before.1.second (kept.free traces links are left.set left.stuck at left.has)

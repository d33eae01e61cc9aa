-- Steps back among what remains lead into a round.
use Rattle.std.proofs.Common.{◌≡◌, ℕ, zero, suc, ◌+◌, ◌<◌, ◌⊎◌, true, List, [], ◌∷◌, ◌++◌, Option, Some, None, length, take, drop, reverse, refl, sym, ◌∙◌, subst, inl, inr, arith}
use Rattle.std.specs.Prelude.{if◌then◌else◌, slice_get}
use Rattle.std.proofs.lemmas.Bool.{cases_eq, cases_lt, cases_order}
use Rattle.std.proofs.lemmas.List.{length-drop}
use Rattle.std.proofs.lemmas.Option.{slice_get_within}
use Rattle.interleavings.specs.declared.traces.Place.{Place}
use Rattle.event_order.proofs.Deciding.{Known, known_as, known_both}
use Rattle.event_order.specs.Backs.{AllRemain, Fills, IsBackOf, IsBefore, IsLeastOf, IsNext, IsWalk, Remains, unmarked_count}
use Rattle.event_order.specs.Cycles.{AtMost, IsRoundFrom}
use Rattle.event_order.specs.Deeds.{Needs, NeedsAt, deed_at, gives_at, needs_of, needs_too_of, size}
use Rattle.event_order.specs.Following.{IsTurned, IsWalked}
use Rattle.event_order.specs.Tables.{IsPut, same_slot}
use Rattle.event_order.specs.declared.deed.Deed.{Deed}
use Rattle.event_order.specs.declared.slot.Slot.{Slot}
use Rattle.event_order.proofs.LeastPlaces.{known_either, known_slot, least_place}
use Rattle.event_order.proofs.Firsts.{at_most_same, at_most_through}
use Rattle.event_order.proofs.Meets.{back_is, mark_less, mark_of, walk_more, walk_start}
use Rattle.event_order.proofs.Rounds.{round_from}
use Rattle.event_order.proofs.Rows.{cases_slot}

-- of two places one is at most the other
at_most_either : (a b : Place) → AtMost a b ⊎ AtMost b a
at_most_either a b = elim (cases_order a.thread b.thread) [
  | inr (inl less) ↦ inl (inl less)
  | inr (inr more) ↦ inr (inl more)
  | inl same ↦ elim (cases_lt b.place a.place) [
    | inr up ↦ inl (inr (same, up))
    | inl down ↦ inr (inr (sym same, omega arith))
  ]
]

-- a least place of a list
record LeastMember (ring : List Place) : Type 0 where
  number : ℕ
  begin : Place
  there : slice_get ring number ≡ Some begin
  least : (i : ℕ) (at : Place) → slice_get ring i ≡ Some at → AtMost begin at

-- a list that isn't empty has one
least_member : (x : Place) (xs : List Place) → LeastMember (x ∷ xs)
least_member x [] = record { number = 0; begin = x; there = refl; least = only }
  where
    only : (i : ℕ) (at : Place) → slice_get (x ∷ []) i ≡ Some at → AtMost x at
    only zero at is = at_most_same x at cc
    only (suc i) at is = absurd cc
least_member x (y ∷ ys) = of_rest (least_member y ys)
  where
    of_rest : LeastMember (y ∷ ys) → LeastMember (x ∷ (y ∷ ys))
    of_rest rest = elim (at_most_either x rest.begin) [
      | inl first ↦ record { number = 0; begin = x; there = refl; least = before first }
      | inr later ↦ record { number = suc rest.number; begin = rest.begin; there = rest.there; least = after later }
    ]
      where
        before : AtMost x rest.begin → (i : ℕ) (at : Place) → slice_get (x ∷ (y ∷ ys)) i ≡ Some at → AtMost x at
        before first zero at is = at_most_same x at cc
        before first (suc i) at is = at_most_through x rest.begin at first (rest.least i at is)

        after : AtMost rest.begin x → (i : ℕ) (at : Place) → slice_get (x ∷ (y ∷ ys)) i ≡ Some at → AtMost rest.begin at
        after later zero at is = at_most_through rest.begin x at later (at_most_same x at cc)
        after later (suc i) at is = rest.least i at is

-- a list that isn't empty, backwards and round from a least place on
turned_there : (ring : List Place) → 0 < length ring → (list : List Place) × IsTurned ring list
turned_there [] some = absurd (omega arith)
turned_there (x ∷ xs) some =
    let found = least_member x xs in (
      found.begin ∷ (reverse (take found.number (x ∷ xs)) ++ reverse (drop (found.number + 1) (x ∷ xs))),
      record { number = found.number; begin = found.begin; there = found.there; parts = refl; least = found.least },
    )

-- marks with one more
abbrev marked : (Slot → Option ℕ) → Slot → ℕ → Slot → Option ℕ
marked marks slot value other = if same_slot slot other then Some value else marks other

-- the mark is put
marked_put : (marks : Slot → Option ℕ) (slot : Slot) (value : ℕ) → IsPut marks slot value (marked marks slot value)
marked_put marks slot value = record {
  here = elim (cases_slot slot slot) [
    | inl same ↦ let test : same_slot slot slot ≡ true = same.1 in rw test refl
    | inr apart ↦ absurd (apart.0 refl)
  ];
  others = λ other apart. rw apart refl;
}

-- a slot has a mark or not
mark_cases : (found : Option ℕ) → ((i : ℕ) × (found ≡ Some i)) ⊎ (found ≡ None)
mark_cases None = inr refl
mark_cases (Some i) = inl (i, refl)

module _ (rows : List (List Deed)) (done : ℕ → ℕ) where
  -- a deed remains or not
  pub known_remains : (at : Place) → Known (Remains rows done at)
  known_remains at = elim (cases_lt at.place (size rows at.thread)) [
    | inr past ↦ inr (λ remains. let there = remains.there in omega arith)
    | inl there ↦ elim (cases_lt at.place (done at.thread)) [
      | inl stands ↦ inr (λ remains. let waits = remains.waits in omega arith)
      | inr waits ↦ inl (record { there = there; waits = waits })
    ]
  ]

  -- a place comes right before another or not
  known_next : (before at : Place) → Known (IsNext before at)
  known_next before at = known_as (λ both. record { thread = both.0; place = both.1 }) (λ next. (next.thread, next.place)) (known_both (cases_eq before.thread at.thread) (cases_eq (before.place + 1) at.place))

  -- a slot has to be filled before a deed or not
  known_needs : (at : Place) (slot : Slot) → Known (NeedsAt rows at slot)
  known_needs at slot = of_deed (deed_at rows at) refl
    where
      of_deed : (found : Option Deed) → deed_at rows at ≡ found → Known (NeedsAt rows at slot)
      of_deed None there = inr (λ needs. let is = needs.there in absurd cc)
      of_deed (Some deed) there = known_as (λ needs. record { deed = deed; there = there; needs = needs })
          (λ needs. let same : needs.deed ≡ deed = (let both : Some needs.deed ≡ Some deed = sym needs.there ∙ there in cc) in subst (λ (d : Deed). Needs d slot) same needs.needs)
          (known_either (known_slot (needs_of deed) (Some slot)) (known_slot (needs_too_of deed) (Some slot)))

  -- a deed fills a slot that another needs or not
  known_fills : (before at : Place) → Known (Fills rows before at)
  known_fills before at = of_slot (gives_at rows before) refl
    where
      of_slot : (found : Option Slot) → gives_at rows before ≡ found → Known (Fills rows before at)
      of_slot None gives = inr (λ fills. let is = fills.gives in absurd cc)
      of_slot (Some slot) gives = known_as (λ needs. record { slot = slot; gives = gives; needs = needs })
          (λ fills. let same : fills.slot ≡ slot = (let both : Some fills.slot ≡ Some slot = sym fills.gives ∙ gives in cc) in subst (NeedsAt rows at) same fills.needs)
          (known_needs at slot)

  -- a deed remains and has to come before another or not
  known_before : (at before : Place) → Known (IsBefore rows done at before)
  known_before at before = known_as (λ both. record { remains = both.0; directly = both.1 }) (λ is. (is.remains, is.directly)) (known_both (known_remains before) (known_either (known_next before at) (known_fills before at)))

  module _ (all : AllRemain rows done) where
    -- there is a step back from each deed that remains
    back_there : (at : Place) → Remains rows done at → (back : Place) × IsBackOf rows done at back
    back_there at remains = let least = least_place rows (IsBefore rows done at) (known_before at) (λ before is. is.remains.there) in of_found least.0 least.1
      where
        of_found : (found : Option Place) → IsLeastOf (IsBefore rows done at) found → (back : Place) × IsBackOf rows done at back
        of_found None none = let before = all at remains in absurd (none before.0 before.1)
        of_found (Some back) least = (back, back_is rows done at back (Some back) remains refl least)

    module _ (first : Place) where
      -- what a walk met
      record Walked : Type 0 where
        met : List Place
        again : ℕ
        walked : IsWalked (IsBackOf rows done) first met again

      -- a walk goes on until a place is met again
      walk_on : (fuel : ℕ) (met : List Place) (marks : Slot → Option ℕ) (at : Place) → unmarked_count rows marks < fuel → IsWalk rows done first met marks at → Walked
      walk_on zero met marks at small walk = absurd (omega arith)
      walk_on (suc fuel) met marks at small walk = elim (mark_cases (marks (mark_of at))) [
        | inl found ↦ record { met = met; again = found.0; walked = record { at = at; chain = walk.chain; starts = walk.starts; there = walk.found at found.0 found.1; once = walk.once } }
        | inr none ↦
            let back = back_there at walk.remains in
            let new = marked marks (mark_of at) (length met) in
            let put = marked_put marks (mark_of at) (length met) in
            walk_on fuel (met ++ at ∷ []) new back.0
            (let less = mark_less rows done first met marks new at walk none put in omega arith)
            (walk_more rows done first met marks new at walk none put back.0 back.1)
      ]

      -- the round into which steps back lead from the first place
      pub round_there : Remains rows done first → (round : List Place) × IsRoundFrom (IsBackOf rows done) first round
      round_there remains =
          let marks : Slot → Option ℕ = λ slot. None in
          let walk = walk_on (unmarked_count rows marks + 1) [] marks first (omega arith) (walk_start rows done first marks (λ slot. refl) remains) in
          let ring = drop walk.again walk.met in
          let some : 0 < length ring = (let count = length-drop walk.again walk.met in let inside = slice_get_within walk.met walk.again walk.walked.at walk.walked.there in omega arith) in
          let turned = turned_there ring some in
          (turned.0, round_from (IsBackOf rows done) first walk.met walk.again walk.walked turned.0 turned.1)

-- The walk along steps back, one step more.
use Rattle.std.proofs.Common.{◌≡◌, ℕ, ◌<◌, ◌≤◌, ◌⊎◌, List, [], ◌∷◌, ◌++◌, Option, Some, None, length, refl, sym, ◌∙◌, ap, subst, inl, inr, arith}
use Rattle.std.specs.Prelude.{IsSome, is_some, slice_get, if◌then◌else◌}
use Rattle.std.proofs.lemmas.Bool.{cases_lt}
use Rattle.std.proofs.lemmas.List.{length_push}
use Rattle.std.proofs.lemmas.Option.{slice_get_within}
use Rattle.interleavings.specs.declared.traces.Place.{Place}
use Rattle.event_order.specs.Backs.{AllRemain, IsBackOf, IsBefore, IsLeastOf, IsWalk, Remains, is_unmarked, unmarked_count}
use Rattle.event_order.specs.Following.{IsOnce}
use Rattle.event_order.specs.Deeds.{size}
use Rattle.event_order.specs.Sums.{upto}
use Rattle.event_order.specs.Tables.{IsPut}
use Rattle.event_order.specs.declared.deed.Deed.{Deed}
use Rattle.event_order.specs.declared.slot.Slot.{Slot}
use Rattle.event_order.proofs.Leading.{first_or-append, leads_append}
use Rattle.event_order.proofs.Making.{slice_get-end, slice_get-left}
use Rattle.event_order.proofs.Places.{cases_place}
use Rattle.event_order.proofs.Rows.{cases_slot}
use Rattle.event_order.proofs.Sums.{upto_le, upto_less}
use Rattle.event_order.proofs.Waiting.{thread_there}

-- the mark of a place
abbrev pub mark_of : Place → Slot
mark_of at = record { row = at.thread; number = at.place }

-- places with one mark are the same
same_mark : (a b : Place) → mark_of a ≡ mark_of b → a ≡ b
same_mark a b same = ap (λ (s : Slot). record { thread = s.row; place = s.number }) same

-- what stands in a list with one more
pub pushed_cases : {X : Type 0} (xs : List X) (y : X) (i : ℕ) (x : X) → slice_get (xs ++ y ∷ []) i ≡ Some x → (slice_get xs i ≡ Some x) ⊎ ((i ≡ length xs) × (y ≡ x))
pushed_cases xs y i x is = elim (cases_lt i (length xs)) [
  | inl inside ↦ inl (sym (slice_get-left xs y i inside) ∙ is)
  | inr past ↦ elim (cases_lt (length xs) i) [
    | inl over ↦ absurd (let small = slice_get_within (xs ++ y ∷ []) i x is in let count = length_push xs y in omega arith)
    | inr last ↦
        let end : i ≡ length xs = omega arith in
        inr (end, (let both : Some y ≡ Some x = sym (slice_get-end xs y i end) ∙ is in cc))
  ]
]

-- where each deed that remains has one before it that remains, there is a step back
pub some_back : (rows : List (List Deed)) (done : ℕ → ℕ) (at : Place) (found : Option Place) → AllRemain rows done → Remains rows done at → IsLeastOf (IsBefore rows done at) found → IsSome found
some_back rows done at None all remains none = let before = all at remains in absurd (none before.0 before.1)
some_back rows done at (Some back) all remains least = refl

-- and it is the one that was found
pub back_is : (rows : List (List Deed)) (done : ℕ → ℕ) (at back : Place) (found : Option Place) → Remains rows done at → found ≡ Some back → IsLeastOf (IsBefore rows done at) found → IsBackOf rows done at back
back_is rows done at back found remains is least =
    let known : IsLeastOf (IsBefore rows done at) (Some back) = subst (IsLeastOf (IsBefore rows done at)) is least in
    record { remains = remains; before = known.0; least = known.1 }

module _ (rows : List (List Deed)) (done : ℕ → ℕ) (first : Place) where
  -- at the start nothing is met
  pub walk_start : (marks : Slot → Option ℕ) → ((slot : Slot) → marks slot ≡ None) → Remains rows done first → IsWalk rows done first [] marks first
  walk_start marks none remains = record {
    remains = remains;
    chain = tt;
    starts = refl;
    found = λ other i is. absurd (let no = none (mark_of other) in cc);
    unmarked = λ other i is met. absurd cc;
    once = λ i j at one other. absurd cc;
  }

  module _ (met : List Place) (marks new : Slot → Option ℕ) (at : Place) (walk : IsWalk rows done first met marks at) (unmarked : marks (mark_of at) ≡ None) (put : IsPut marks (mark_of at) (length met) new) where
    -- another place keeps its mark
    kept_mark : (other : Place) → (at ≡ other → ⊥) → new (mark_of other) ≡ marks (mark_of other)
    kept_mark other apart = elim (cases_slot (mark_of at) (mark_of other)) [
      | inl same ↦ absurd (apart (same_mark at other same.0))
      | inr differ ↦ put.others (mark_of other) differ.1
    ]

    -- the place is not met before
    fresh : (i : ℕ) (other : Place) → at ≡ other → slice_get met i ≡ Some other → ⊥
    fresh i other same is = walk.unmarked at i unmarked (is ∙ ap (λ p. Some p) (sym same))

    -- it is met once
    once_more : IsOnce (met ++ at ∷ [])
    once_more i j other one two = elim (pushed_cases met at i other one) [
      | inl first ↦ elim (pushed_cases met at j other two) [
        | inl second ↦ walk.once i j other first second
        | inr last ↦ absurd (fresh i other last.1 first)
      ]
      | inr end ↦ elim (pushed_cases met at j other two) [
        | inl second ↦ absurd (fresh j other end.1 second)
        | inr last ↦ end.0 ∙ sym last.0
      ]
    ]

    -- one step more
    pub walk_more : (back : Place) → IsBackOf rows done at back → IsWalk rows done first (met ++ at ∷ []) new back
    walk_more back step = record {
      remains = step.before.remains;
      chain = leads_append (IsBackOf rows done) met (at ∷ []) back walk.chain (step, tt);
      starts = first_or-append met (at ∷ []) back ∙ walk.starts;
      found = λ other i is. elim (cases_place at other) [
        | inl same ↦
            let number : i ≡ length met = (let both : Some (length met) ≡ Some i = sym put.here ∙ (ap (λ p. new (mark_of p)) same.0 ∙ is) in cc) in
            slice_get-end met at i number ∙ ap (λ p. Some p) same.0
        | inr apart ↦
            let was = walk.found other i (sym (kept_mark other apart.0) ∙ is) in
            slice_get-left met at i (slice_get_within met i other was) ∙ was
      ];
      unmarked = λ other i none is. elim (pushed_cases met at i other is) [
        | inr last ↦ let mark : new (mark_of other) ≡ Some (length met) = ap (λ p. new (mark_of p)) (sym last.1) ∙ put.here in cc
        | inl before ↦ elim (cases_place at other) [
          | inl same ↦ fresh i other same.0 before
          | inr apart ↦ walk.unmarked other i (sym (kept_mark other apart.0) ∙ none) before
        ]
      ];
      once = once_more;
    }

    -- a place with a mark counts nothing
    marked_zero : (place : Place) (i : ℕ) → new (mark_of place) ≡ Some i → is_unmarked new place.thread place.place ≡ 0
    marked_zero place i is = ap (λ (o : Option ℕ). if is_some o then 0 else 1) is

    -- no place counts more than before
    mark_le : (thread i : ℕ) → is_unmarked new thread i ≤ is_unmarked marks thread i
    mark_le thread i = elim (cases_place at (record { thread = thread; place = i })) [
      | inl same ↦ let none = marked_zero (record { thread = thread; place = i }) (length met) (ap (λ p. new (mark_of p)) (sym same.0) ∙ put.here) in omega arith
      | inr apart ↦ let same : is_unmarked new thread i ≡ is_unmarked marks thread i = ap (λ (o : Option ℕ). if is_some o then 0 else 1) (kept_mark (record { thread = thread; place = i }) apart.0) in omega arith
    ]

    -- fewer places have no mark then
    pub mark_less : unmarked_count rows new < unmarked_count rows marks
    mark_less =
        let now = marked_zero at (length met) put.here in
        let old : is_unmarked marks at.thread at.place ≡ 1 = ap (λ (o : Option ℕ). if is_some o then 0 else 1) unmarked in
        upto_less (λ thread. upto (is_unmarked new thread) (size rows thread)) (λ thread. upto (is_unmarked marks thread) (size rows thread)) (length rows) at.thread (thread_there rows at.thread at.place walk.remains.there)
        (λ thread below. upto_le (is_unmarked new thread) (is_unmarked marks thread) (size rows thread) (λ i small. mark_le thread i))
        (upto_less (is_unmarked new at.thread) (is_unmarked marks at.thread) (size rows at.thread) at.place walk.remains.there (λ i small. mark_le at.thread i) (omega arith))

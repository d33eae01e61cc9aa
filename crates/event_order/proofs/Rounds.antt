-- The round that a walk ends in, backwards from its least place on.
use Rattle.std.proofs.Common.{◌≡◌, ℕ, ◌+◌, ◌-◌, ◌<◌, ◌≤◌, List, ◌∷◌, ◌++◌, Some, length, take, drop, reverse, sym, ◌∙◌, ap, subst, inl, inr, arith, true, false, ◌⊎◌, get_or}
use Rattle.std.specs.Prelude.{Contains, slice_get}
use Rattle.std.proofs.lemmas.Bool.{cases_lt}
use Rattle.std.proofs.lemmas.List.{drop_more, get_or-reverse, get_or-take, get_or-drop, length-reverse, length-take, length-drop, reverse-append, take-append-drop}
use Rattle.std.proofs.lemmas.List.Elements.{Contains-append_cases}
use Rattle.std.proofs.lemmas.Option.{get_or_from_slice_get, slice_get-get_or, slice_get_within}
use Rattle.interleavings.specs.declared.traces.Place.{Place}
use Rattle.event_order.specs.Backs.{IsLeastAt, is_behind}
use Rattle.event_order.specs.Following.{IsFollowed, IsTurned, IsWalked}
use Rattle.event_order.specs.Cycles.{AtMost, IsRing, IsRoundFrom, Leads, first_or}
use Rattle.event_order.proofs.Firsts.{ahead_at_most, at_most_same, at_most_through, behind_at_most}
use Rattle.event_order.proofs.Leading.{first_or-append, leads_append, leads_back, leads_front, leads_reverse}

-- one place more, of which the lesser is kept
pub least_more : (ring : List Place) (i best next : ℕ) (d : Place) → i < length ring → best < length ring → IsLeastAt ring i best → ((is_behind (get_or ring i d) (get_or ring best d) ≡ true) × (next ≡ i)) ⊎ ((is_behind (get_or ring i d) (get_or ring best d) ≡ false) × (next ≡ best)) → IsLeastAt ring (i + 1) next
least_more ring i best next d here there least (inl new) j at kept small is kept_is =
    let number : get_or ring next d ≡ kept = get_or_from_slice_get ring next kept d kept_is in
    let same : get_or ring i d ≡ kept = ap (λ n. get_or ring n d) (sym new.1) ∙ number in
    elim (cases_lt j i) [
      | inl before ↦
          subst (λ (p : Place). AtMost p at) same
          (at_most_through (get_or ring i d) (get_or ring best d) at (behind_at_most (get_or ring i d) (get_or ring best d) new.0)
          (least j at (get_or ring best d) before is (slice_get-get_or ring best d there)))
      | inr last ↦
          let place : get_or ring j d ≡ at = get_or_from_slice_get ring j at d is in
          at_most_same kept at (sym same ∙ (ap (λ n. get_or ring n d) (let end : i ≡ j = omega arith in end) ∙ place))
    ]
least_more ring i best next d here there least (inr old) j at kept small is kept_is =
    let number : get_or ring next d ≡ kept = get_or_from_slice_get ring next kept d kept_is in
    let same : get_or ring best d ≡ kept = ap (λ n. get_or ring n d) (sym old.1) ∙ number in
    elim (cases_lt j i) [
      | inl before ↦ least j at kept before is (ap (slice_get ring) (sym old.1) ∙ kept_is)
      | inr last ↦
          let place : get_or ring i d ≡ at = ap (λ n. get_or ring n d) (let end : i ≡ j = omega arith in end) ∙ get_or_from_slice_get ring j at d is in
          subst (λ (p : Place). AtMost p at) same (subst (AtMost (get_or ring best d)) place (ahead_at_most (get_or ring i d) (get_or ring best d) old.0))
    ]

-- a list, parted at a place of it
parted : {X : Type 0} (xs : List X) (k : ℕ) (x : X) → slice_get xs k ≡ Some x → xs ≡ take k xs ++ x ∷ drop (k + 1) xs
parted xs k x is =
    let small = slice_get_within xs k x is in
    sym (take-append-drop k xs) ∙ ap (λ ys. take k xs ++ ys) (drop_more xs k x small ∙ ap (λ y. y ∷ drop (k + 1) xs) (get_or_from_slice_get xs k x x is))

-- what a list contains stands at a place of it
at_place : {X : Type 0} (xs : List X) (x : X) → Contains xs x → (i : ℕ) × (slice_get xs i ≡ Some x) × (i < length xs)
at_place xs x has = (has.0, slice_get-get_or xs has.0 x has.1 ∙ ap (λ y. Some y) has.2, has.1)

-- what a list contains backwards it contains
pub unturned : {X : Type 0} (xs : List X) (x : X) → Contains (reverse xs) x → Contains xs x
unturned xs x has =
    let small : has.0 < length xs = (let count = length-reverse xs in let inside = has.1 in omega arith) in
    (length xs - 1 - has.0, omega arith, sym (get_or-reverse xs has.0 x small) ∙ has.2)

-- what the first part of a list contains
in_front : {X : Type 0} (xs : List X) (k : ℕ) (x : X) → Contains (take k xs) x → (i : ℕ) × (slice_get xs i ≡ Some x) × (i < k)
in_front xs k x has =
    let small : (has.0 < k) × (has.0 < length xs) = (let count = length-take k xs in let inside = has.1 in (omega arith, omega arith)) in
    (has.0, slice_get-get_or xs has.0 x small.1 ∙ ap (λ y. Some y) (sym (get_or-take k xs has.0 x small.0) ∙ has.2), small.0)

-- and what the last part of it does
in_back : {X : Type 0} (xs : List X) (k : ℕ) (x : X) → Contains (drop k xs) x → (i : ℕ) × (slice_get xs i ≡ Some x) × (k ≤ i)
in_back xs k x has =
    let small : k + has.0 < length xs = (let count = length-drop k xs in let inside = has.1 in omega arith) in
    (k + has.0, slice_get-get_or xs (k + has.0) x small ∙ ap (λ y. Some y) (sym (get_or-drop k xs has.0 x) ∙ has.2), omega arith)

-- what stands in the last part of a list stands in it
from_back : {X : Type 0} (xs : List X) (k i : ℕ) (x : X) → slice_get (drop k xs) i ≡ Some x → slice_get xs (k + i) ≡ Some x
from_back xs k i x is =
    let small : k + i < length xs = (let count = length-drop k xs in let inside = slice_get_within (drop k xs) i x is in omega arith) in
    slice_get-get_or xs (k + i) x small ∙ ap (λ y. Some y) (sym (get_or-drop k xs i x) ∙ get_or_from_slice_get (drop k xs) i x x is)

module _ (steps : Place → Place → Type 0) (first : Place) (met : List Place) (again : ℕ) (walked : IsWalked steps first met again) (list : List Place) (turned : IsTurned (drop again met) list) where
  -- the round, as it was walked
  abbrev ring : List Place
  ring = drop again met

  -- what was walked before it
  abbrev before : List Place
  before = take again met

  -- the round up to its least place
  abbrev front : List Place
  front = take turned.number ring

  -- and from there on
  abbrev back : List Place
  back = drop (turned.number + 1) ring

  -- the round in its parts
  ring_parts : ring ≡ front ++ turned.begin ∷ back
  ring_parts = parted ring turned.number turned.begin turned.there

  -- it begins where the walk ends
  ring_begins : first_or ring walked.at ≡ walked.at
  ring_begins = ap (λ xs. first_or xs walked.at) (drop_more met again walked.at (slice_get_within met again walked.at walked.there)) ∙ get_or_from_slice_get met again walked.at walked.at walked.there

  -- the first place of the round, by its parts
  front_begins : first_or front turned.begin ≡ walked.at
  front_begins = sym (first_or-append front (turned.begin ∷ back) walked.at) ∙ (ap (λ xs. first_or xs walked.at) (sym ring_parts) ∙ ring_begins)

  -- the walk in its parts
  whole : Leads steps (before ++ ring) walked.at
  whole = let P : List Place → Type 0 = λ xs. Leads steps xs walked.at in subst P (sym (take-append-drop again met)) walked.chain

  -- the round leads to its own begin
  round : Leads steps (front ++ turned.begin ∷ back) walked.at
  round = let P : List Place → Type 0 = λ xs. Leads steps xs walked.at in subst P ring_parts (leads_back steps before ring walked.at whole)

  -- its first part leads to its least place
  front_leads : Leads steps front turned.begin
  front_leads = leads_front steps front (turned.begin ∷ back) walked.at round

  -- the way to the least place
  way_leads : Leads steps (before ++ front) turned.begin
  way_leads =
      leads_append steps before front turned.begin
      (subst (Leads steps before) (ring_begins ∙ sym front_begins) (leads_front steps before ring walked.at whole))
      front_leads

  -- the round from its least place on
  from_least : Leads steps ((turned.begin ∷ back) ++ front) turned.begin
  from_least =
      leads_append steps (turned.begin ∷ back) front turned.begin
      (subst (Leads steps (turned.begin ∷ back)) (sym front_begins) (leads_back steps front (turned.begin ∷ back) walked.at round))
      front_leads

  -- the others of the round
  abbrev others : List Place
  others = reverse front ++ reverse back

  -- the round backwards
  backwards : Leads (λ earlier later. steps later earlier) (turned.begin ∷ others) turned.begin
  backwards =
      let P : List Place → Type 0 = λ xs. Leads (λ earlier later. steps later earlier) (turned.begin ∷ xs) turned.begin in
      subst P (reverse-append back front) (leads_reverse steps turned.begin (back ++ front) turned.begin from_least)

  -- another place of the round stands elsewhere in it
  elsewhere : (at : Place) → Contains others at → (i : ℕ) × (slice_get ring i ≡ Some at) × (i ≡ turned.number → ⊥)
  elsewhere at has = elim (Contains-append_cases (reverse front) (reverse back) at has) [
    | inl here ↦ let found = in_front ring turned.number at (unturned front at here) in (found.0, found.1, λ same. let small = found.2 in omega arith)
    | inr there ↦ let found = in_back ring (turned.number + 1) at (unturned back at there) in (found.0, found.1, λ same. let large = found.2 in omega arith)
  ]

  -- the begin is no other
  begin_once : Contains others turned.begin → ⊥
  begin_once has =
      let found = elsewhere turned.begin has in
      found.2 (let both = walked.once (again + found.0) (again + turned.number) turned.begin (from_back met again found.0 turned.begin found.1) (from_back met again turned.number turned.begin turned.there) in omega arith)

  -- the list is the round that the walk leads into
  pub round_from : IsRoundFrom steps first list
  round_from = record {
    way = before ++ front;
    begin = turned.begin;
    others = others;
    starts = way_starts;
    leads = way_leads;
    parts = turned.parts;
    goes_round = subst (IsRing (λ earlier later. steps later earlier)) (sym turned.parts) backwards;
    once = begin_once;
    least = λ at has. let found = elsewhere at has in turned.least found.0 at found.1;
  }
    where
      way_starts : first_or (before ++ front) turned.begin ≡ first
      way_starts =
          first_or-append before front turned.begin
          ∙ (ap (first_or before) (front_begins ∙ sym ring_begins)
          ∙ (sym (first_or-append before ring walked.at)
          ∙ (ap (λ xs. first_or xs walked.at) (take-append-drop again met) ∙ walked.starts)))

-- where steps were followed until a place came a second time, they lead into the round
pub followed_round : (steps : Place → Place → Type 0) (start : Place) (list : List Place) → IsFollowed steps start list → IsRoundFrom steps start list
followed_round steps start list is = round_from steps start is.met is.again is.walked list is.turned

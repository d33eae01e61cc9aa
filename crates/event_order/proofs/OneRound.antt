-- Steps of which each place has one at most lead from a start into one round.
use Rattle.std.proofs.Common.{◌≡◌, ℕ, zero, suc, ◌⊎◌, List, [], ◌∷◌, length, reverse, refl, sym, ◌∙◌, ap, ap₂, subst, inl, inr, arith}
use Rattle.std.specs.Prelude.{Contains}
use Rattle.std.proofs.lemmas.List.{reverse-reverse}
use Rattle.interleavings.specs.declared.traces.Place.{Place}
use Rattle.interleavings.specs.TraceLists.{TraceLists}
use Rattle.event_order.specs.Cycles.{AtMost, IsRing, IsRoundFrom, IsTheCycle, Leads, StepsBack, first_or}
use Rattle.event_order.specs.DirectOrder.{LinkRows}
use Rattle.event_order.proofs.Excluding.{Among}
use Rattle.event_order.proofs.Firsts.{at_most_both}
use Rattle.event_order.proofs.Leading.{leads_reverse}
use Rattle.event_order.proofs.Rounds.{unturned}

-- what is among places they contain
contains_from : (xs : List Place) (x : Place) → Among x xs → Contains xs x
contains_from [] x among = absurd among
contains_from (y ∷ ys) x (inl same) = (0, omega arith, sym same)
contains_from (y ∷ ys) x (inr later) = let found = contains_from ys x later in (suc found.0, (let small = found.1 in omega arith), found.2)

-- each place has one step at most
abbrev IsOneStep : (Place → Place → Type 0) → Type 0
IsOneStep steps = (at one other : Place) → steps at one → steps at other → one ≡ other

-- so many steps lead from one place to another
After : (Place → Place → Type 0) → ℕ → Place → Place → Type 0
After steps zero at end = at ≡ end
After steps (suc n) at end = (next : Place) × steps at next × After steps n next end

module _ (steps : Place → Place → Type 0) (one_step : IsOneStep steps) where
  -- of two places that a place leads to, one leads to the other
  either_way : (n m : ℕ) (at one other : Place) → After steps n at one → After steps m at other → ((k : ℕ) × After steps k one other) ⊎ ((k : ℕ) × After steps k other one)
  unfolding After
  either_way zero m at one other first second = inl (m, subst (λ (p : Place). After steps m p other) first second)
  either_way (suc n) zero at one other first second = inr (suc n, subst (λ (p : Place). After steps (suc n) p one) second first)
  either_way (suc n) (suc m) at one other first second =
      let same : first.0 ≡ second.0 = one_step at first.0 second.0 first.1 second.1 in
      either_way n m second.0 one other (subst (λ (p : Place). After steps n p one) same first.2) second.2

  -- a list of places that lead on leads to its end
  leads_after : (xs : List Place) (end : Place) → Leads steps xs end → After steps (length xs) (first_or xs end) end
  unfolding After
  leads_after [] end leads = refl
  leads_after (x ∷ xs) end leads = (first_or xs end, leads.0, leads_after xs end leads.1)

  -- and so does each place of it
  member_after : (xs : List Place) (end at : Place) → Leads steps xs end → Among at xs → (k : ℕ) × After steps k at end
  member_after [] end at leads among = absurd among
  member_after (x ∷ xs) end at leads (inl same) = (length (x ∷ xs), subst (λ (p : Place). After steps (length (x ∷ xs)) p end) (sym same) (leads_after (x ∷ xs) end leads))
  member_after (x ∷ xs) end at leads (inr later) = member_after xs end at leads.1 later

  -- the step from a place of the list is to a place of it, or to its end
  step_within : (xs : List Place) (end at next : Place) → Leads steps xs end → Among at xs → steps at next → Among next xs ⊎ (next ≡ end)
  step_within [] end at next leads among step = absurd among
  step_within (x ∷ []) end at next leads (inl same) step = inr (one_step x next end (subst (λ (p : Place). steps p next) same step) leads.0)
  step_within (x ∷ []) end at next leads (inr later) step = absurd later
  step_within (x ∷ (y ∷ ys)) end at next leads (inl same) step = inl (inr (inl (one_step x next y (subst (λ (p : Place). steps p next) same step) leads.0)))
  step_within (x ∷ (y ∷ ys)) end at next leads (inr later) step = elim (step_within (y ∷ ys) end at next leads.1 later step) [
    | inl within ↦ inl (inr within)
    | inr last ↦ inr last
  ]

  -- steps don't leave a ring
  stays : (x : Place) (xs : List Place) → Leads steps (x ∷ xs) x → (n : ℕ) (at end : Place) → Among at (x ∷ xs) → After steps n at end → Among end (x ∷ xs)
  unfolding After
  stays x xs ring zero at end among after = subst (λ (p : Place). Among p (x ∷ xs)) after among
  stays x xs ring (suc n) at end among after = elim (step_within (x ∷ xs) x at after.0 ring among after.1) [
    | inl within ↦ stays x xs ring n after.0 end within after.2
    | inr first ↦ stays x xs ring n after.0 end (inl first) after.2
  ]

  -- one way from a place to an end that is met at its end alone
  one_way : (x end : Place) (xs ys : List Place) → Leads steps (x ∷ xs) end → Leads steps (x ∷ ys) end → (Among end xs → ⊥) → (Among end ys → ⊥) → xs ≡ ys
  one_way x end [] [] one other apart apart' = refl
  one_way x end [] (y ∷ ys) one other apart apart' = absurd (apart' (inl (one_step x end y one.0 other.0)))
  one_way x end (y ∷ ys) [] one other apart apart' = absurd (apart (inl (one_step x end y other.0 one.0)))
  one_way x end (y ∷ ys) (z ∷ zs) one other apart apart' =
      let same : y ≡ z = one_step x y z one.0 other.0 in
      let P : Place → Type 0 = λ p. Leads steps (p ∷ ys) end in
      ap₂ (λ p ps. p ∷ ps) same (one_way z end ys zs (subst P same one.1) other.1 (λ later. apart (inr later)) (λ later. apart' (inr later)))

  module _ (start : Place) (round : List Place) (is : IsRoundFrom steps start round) where
    -- a round in the direction of its steps
    forwards : Leads steps (is.begin ∷ reverse is.others) is.begin
    forwards = leads_reverse (λ before after. steps after before) is.begin is.others is.begin (subst (IsRing (λ before after. steps after before)) is.parts is.goes_round)

    -- its begin is none of the others
    begin_apart : Among is.begin (reverse is.others) → ⊥
    begin_apart among = is.once (unturned is.others is.begin (contains_from (reverse is.others) is.begin among))

    -- and at most each of them
    begin_least : (at : Place) → Among at (is.begin ∷ reverse is.others) → AtMost is.begin at
    begin_least at (inl same) = inr (sym (ap (λ (p : Place). p.thread) same), (let place = ap (λ (p : Place). p.place) same in omega arith))
    begin_least at (inr later) = is.least at (unturned is.others at (contains_from (reverse is.others) at later))

    -- the start leads to it
    begin_after : After steps (length is.way) start is.begin
    begin_after = subst (λ (p : Place). After steps (length is.way) p is.begin) is.starts (leads_after is.way is.begin is.leads)

  -- where the begin of one round leads to that of another, each is among the places of the other
  meet : (start start' : Place) (one other : List Place) (first : IsRoundFrom steps start one) (second : IsRoundFrom steps start' other) (k : ℕ) → After steps k first.begin second.begin → first.begin ≡ second.begin
  meet start start' one other first second k after =
      let there = stays first.begin (reverse first.others) (forwards start one first) k first.begin second.begin (inl refl) after in
      let back = member_after (first.begin ∷ reverse first.others) first.begin second.begin (forwards start one first) there in
      let here = stays second.begin (reverse second.others) (forwards start' other second) back.0 second.begin first.begin (inl refl) back.1 in
      at_most_both first.begin second.begin (begin_least start one first second.begin there) (begin_least start' other second first.begin here)

  -- steps lead from a start into one round
  pub one_round : (start : Place) (one other : List Place) → IsRoundFrom steps start one → IsRoundFrom steps start other → one ≡ other
  one_round start one other first second =
      let begins : first.begin ≡ second.begin = elim (either_way (length first.way) (length second.way) start first.begin second.begin (begin_after start one first) (begin_after start other second)) [
        | inl there ↦ meet start start one other first second there.0 there.1
        | inr back ↦ sym (meet start start other one second first back.0 back.1)
      ] in
      let P : Place → Type 0 = λ p. Leads steps (p ∷ reverse first.others) p in
      let Q : Place → Type 0 = λ p. Among p (reverse first.others) → ⊥ in
      let backwards : reverse first.others ≡ reverse second.others = one_way second.begin second.begin (reverse first.others) (reverse second.others)
      (subst P begins (forwards start one first)) (forwards start other second) (subst Q begins (begin_apart start one first)) (begin_apart start other second) in
      let others : first.others ≡ second.others = sym (reverse-reverse first.others) ∙ (ap reverse backwards ∙ reverse-reverse second.others) in
      first.parts ∙ (ap₂ (λ p ps. p ∷ ps) begins others ∙ sym second.parts)

-- an event has one step back at most
one_back : (traces : TraceLists) (links : LinkRows) → IsOneStep (StepsBack traces links)
one_back traces links at one other first second = at_most_both one other (first.least other second.before second.left) (second.least one first.before first.left)

-- there is one cycle at most that is told
pub one_cycle : (traces : TraceLists) (links : LinkRows) (one other : List Place) → IsTheCycle traces links one → IsTheCycle traces links other → one ≡ other
one_cycle traces links one other first second =
    let starts : first.start ≡ second.start = at_most_both first.start second.start (first.least second.start second.left) (second.least first.start first.left) in
    one_round (StepsBack traces links) (one_back traces links) second.start one other
    (subst (λ (p : Place). IsRoundFrom (StepsBack traces links) p one) starts first.round) second.round

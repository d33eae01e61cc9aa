-- Lists whose members lead from one to the next.
use Rattle.std.proofs.Common.{◌≡◌, List, [], ◌∷◌, ◌++◌, reverse, refl, sym, subst}
use Rattle.std.proofs.lemmas.List.{reverse-append}
use Rattle.interleavings.specs.declared.traces.Place.{Place}
use Rattle.event_order.specs.Cycles.{IsRing, IsRoundFrom, Leads, first_or}

-- the first of two lists
pub first_or-append : (xs ys : List Place) (end : Place) → first_or (xs ++ ys) end ≡ first_or xs (first_or ys end)
first_or-append [] ys end = refl
first_or-append (x ∷ xs) ys end = refl

-- two lists, of which the first leads to the second
pub leads_append : (relation : Place → Place → Type 0) (xs ys : List Place) (end : Place) → Leads relation xs (first_or ys end) → Leads relation ys end → Leads relation (xs ++ ys) end
leads_append relation [] ys end first second = second
leads_append relation (x ∷ xs) ys end first second = (subst (relation x) (sym (first_or-append xs ys end)) first.0, leads_append relation xs ys end first.1 second)

-- the first part of a list leads to the second
pub leads_front : (relation : Place → Place → Type 0) (xs ys : List Place) (end : Place) → Leads relation (xs ++ ys) end → Leads relation xs (first_or ys end)
leads_front relation [] ys end leads = tt
leads_front relation (x ∷ xs) ys end leads = (subst (relation x) (first_or-append xs ys end) leads.0, leads_front relation xs ys end leads.1)

-- and the second to the end
pub leads_back : (relation : Place → Place → Type 0) (xs ys : List Place) (end : Place) → Leads relation (xs ++ ys) end → Leads relation ys end
leads_back relation [] ys end leads = leads
leads_back relation (x ∷ xs) ys end leads = leads_back relation xs ys end leads.1

-- a list that leads on by one relation does by a weaker one
pub leads_weaker : (relation weaker : Place → Place → Type 0) → ((a b : Place) → relation a b → weaker a b) → (xs : List Place) (end : Place) → Leads relation xs end → Leads weaker xs end
leads_weaker relation weaker goes [] end leads = tt
leads_weaker relation weaker goes (x ∷ xs) end leads = (goes x (first_or xs end) leads.0, leads_weaker relation weaker goes xs end leads.1)

-- and so does a ring
pub ring_weaker : (relation weaker : Place → Place → Type 0) → ((a b : Place) → relation a b → weaker a b) → (xs : List Place) → IsRing relation xs → IsRing weaker xs
ring_weaker relation weaker goes [] ring = ring
ring_weaker relation weaker goes (x ∷ xs) ring = leads_weaker relation weaker goes (x ∷ xs) x ring

-- and a round
pub round_weaker : (steps weaker : Place → Place → Type 0) → ((a b : Place) → steps a b → weaker a b) → (start : Place) (round : List Place) → IsRoundFrom steps start round → IsRoundFrom weaker start round
round_weaker steps weaker goes start round is = record {
  way = is.way;
  begin = is.begin;
  others = is.others;
  starts = is.starts;
  leads = leads_weaker steps weaker goes is.way is.begin is.leads;
  parts = is.parts;
  goes_round = ring_weaker (λ before after. steps after before) (λ before after. weaker after before) (λ a b. goes b a) round is.goes_round;
  once = is.once;
  least = is.least;
}

-- backwards
pub leads_reverse : (relation : Place → Place → Type 0) (x : Place) (xs : List Place) (end : Place) → Leads relation (x ∷ xs) end → Leads (λ before after. relation after before) (end ∷ reverse xs) x
leads_reverse relation x [] end leads = (leads.0, tt)
leads_reverse relation x (y ∷ ys) end leads =
    let rest : Leads (λ before after. relation after before) (end ∷ reverse ys) y = leads_reverse relation y ys end leads.1 in
    let P : List Place → Type 0 = λ zs. Leads (λ before after. relation after before) (end ∷ zs) x in
    subst P (sym (reverse-append (y ∷ []) ys)) (leads_append (λ before after. relation after before) (end ∷ reverse ys) (y ∷ []) x rest (leads.0, tt))

-- A cycle leaves no extension.
use Rattle.std.proofs.Common.{◌≡◌, ◌⊎◌, Bool, false, List, [], ◌∷◌, refl, sym, ◌∙◌, subst, inl, inr}
use Rattle.std.proofs.lemmas.Bool.{true≢false}
use Rattle.interleavings.specs.declared.traces.Place.{Place}
use Rattle.interleavings.specs.TraceLists.{TraceLists}
use Rattle.event_order.specs.Cycles.{IsCycle, IsRing, Leads, Precedes}
use Rattle.event_order.specs.DirectOrder.{Direct, LinkRows}
use Rattle.event_order.specs.Extensions.{Extends, IsExtension, IsPlace, standing_too}
use Rattle.event_order.proofs.Places.{cases_place}

-- the place is among the list
abbrev pub Among : Place → List Place → Type 0
Among at [] = ⊥
Among at (x ∷ xs) = (at ≡ x) ⊎ Among at xs

-- a member that leads to a place
record LeadsTo (relation : Place → Place → Type 0) (xs : List Place) (at : Place) : Type 0 where
  before : Place
  among : Among before xs
  leads : relation before at

module _ (relation : Place → Place → Type 0) where
  -- the last member leads to the end
  last_leads : (x : Place) (xs : List Place) (end : Place) → Leads relation (x ∷ xs) end → LeadsTo relation (x ∷ xs) end
  last_leads x [] end leads = record { before = x; among = inl refl; leads = leads.0 }
  last_leads x (y ∷ ys) end leads = let found = last_leads y ys end leads.1 in record { before = found.before; among = inr found.among; leads = found.leads }

  -- each but the first is led to
  others_led : (x : Place) (xs : List Place) (end at : Place) → Leads relation (x ∷ xs) end → Among at xs → LeadsTo relation (x ∷ xs) at
  others_led x [] end at leads among = absurd among
  others_led x (y ∷ ys) end at leads (inl same) = record { before = x; among = inl refl; leads = subst (relation x) (sym same) leads.0 }
  others_led x (y ∷ ys) end at leads (inr later) = let found = others_led y ys end at leads.1 later in record { before = found.before; among = inr found.among; leads = found.leads }

  -- each member of a ring is led to
  ring_led : (x : Place) (xs : List Place) (at : Place) → IsRing relation (x ∷ xs) → Among at (x ∷ xs) → LeadsTo relation (x ∷ xs) at
  ring_led x xs at ring (inl same) = subst (LeadsTo relation (x ∷ xs)) (sym same) (last_leads x xs x ring)
  ring_led x xs at ring (inr later) = others_led x xs x at ring later

module _ (traces : TraceLists) (links : LinkRows) (x : Place) (xs : List Place) (ring : IsCycle traces links (x ∷ xs)) where
  -- where no event of a cycle stands, none comes to stand
  none_stands : (stands : Place → Bool) (places : List Place) → ((at : Place) → Among at (x ∷ xs) → stands at ≡ false) → Extends traces links stands places → ⊥
  none_stands stands [] none extends =
      let found = ring_led (Precedes traces links) x xs x ring (inl refl) in
      true≢false (sym (extends x found.leads.second) ∙ none x (inl refl))
  none_stands stands (next ∷ places) none extends = none_stands (standing_too next stands) places still extends.3
    where
      still : (at : Place) → Among at (x ∷ xs) → standing_too next stands at ≡ false
      still at among = elim (cases_place next at) [
        | inr apart ↦ let test : Rattle.event_order.specs.Extensions.same_place next at ≡ false = apart.1 in rw test (none at among)
        | inl same ↦
            let found = ring_led (Precedes traces links) x xs at ring among in
            let P : Place → Type 0 = λ p. Direct traces links found.before p in
            absurd (true≢false (sym (extends.2 found.before (subst P (sym same.0) found.leads.direct)) ∙ none found.before found.among))
      ]

-- a cycle and an extension exclude each other
pub cycle_excludes : (traces : TraceLists) (links : LinkRows) (cycle places : List Place) → IsCycle traces links cycle → IsExtension traces links places → ⊥
cycle_excludes traces links [] places ring extension = ring
cycle_excludes traces links (x ∷ xs) places ring extension = none_stands traces links x xs ring (λ at. false) places (λ at among. refl) extension

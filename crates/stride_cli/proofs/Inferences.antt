-- A program, a fuel and logs come to one thing at most.
use Rattle.std.proofs.Common.{◌≡◌, ◌∙◌, ℕ, List, [], ◌∷◌, Result, Ok, Err, sym, ap, subst}
use Rattle.stride_isa.specs.Listing.{Listing}
use Rattle.interleavings.specs.declared.traces.Place.{Place}
use Rattle.interleavings.specs.Following.{Divergence, Followed}
use Rattle.interleavings.specs.TraceLists.{TraceLists}
use Rattle.linkage.specs.Answers.{IsWhole}
use Rattle.linkage.specs.Laws.{OneFirstRefusal, OneLinking}
use Rattle.event_order.specs.Cycles.{IsCycle, IsRing, IsTheCycle, Leads, Precedes, StepsBack}
use Rattle.event_order.specs.DirectOrder.{LinkRows}
use Rattle.event_order.specs.Laws.{CyclesExclude, OneCycle, OneLeast, traces_of}
use Rattle.event_order.specs.Least.{IsLeast}
use Rattle.stride_cli.specs.Inferring.{Circular, Diverging, Inference, Inferred, IsInferredBy, IsInferredOf, Ordered, Unlinked}

-- what the laws of linking and of the direct order say
pub record Laws : Type 0 where
  pub one_refusal : OneFirstRefusal
  pub one_linking : OneLinking
  pub one_cycle : OneCycle
  pub one_least : OneLeast
  pub exclude : CyclesExclude

-- what steps back lead along, the direct order leads along
leads_before : (traces : TraceLists) (links : LinkRows) (places : List Place) (end : Place) → Leads (λ before after. StepsBack traces links after before) places end → Leads (Precedes traces links) places end
leads_before traces links [] end leads = tt
leads_before traces links (at ∷ rest) end leads = (leads.0.before, leads_before traces links rest end leads.1)

pub ring_before : (traces : TraceLists) (links : LinkRows) (places : List Place) → IsRing (λ before after. StepsBack traces links after before) places → IsCycle traces links places
ring_before traces links [] ring = ring
ring_before traces links (at ∷ rest) ring = leads_before traces links (at ∷ rest) at ring

module _ (laws : Laws) (traces : TraceLists) where
  -- a cycle leaves no least schedule
  circular_or_ordered : (links : LinkRows) (cycle : List Place) (inferred : Inferred) → IsWhole traces links → IsTheCycle traces links cycle → IsWhole traces inferred.links → IsLeast traces inferred.links inferred.schedule → ⊥
  circular_or_ordered links cycle inferred whole is other least =
      let P : LinkRows → Type 0 = λ links. IsTheCycle traces links cycle in
      let there = subst P (laws.one_linking traces links inferred.links whole.linked other.linked) is in
      laws.exclude traces inferred.links cycle least.places (ring_before traces inferred.links cycle there.round.goes_round) least.extends

  -- there is one cycle at most
  circles : (links more : LinkRows) (cycle other : List Place) → IsWhole traces links → IsTheCycle traces links cycle → IsWhole traces more → IsTheCycle traces more other → cycle ≡ other
  circles links more cycle other whole is also same =
      let P : LinkRows → Type 0 = λ links. IsTheCycle traces links cycle in
      laws.one_cycle traces more cycle other (subst P (laws.one_linking traces links more whole.linked also.linked) is) same

  -- there are links with a schedule once at most
  orders : (one other : Inferred) → IsWhole traces one.links → IsLeast traces one.links one.schedule → IsWhole traces other.links → IsLeast traces other.links other.schedule → one ≡ other
  orders one other whole is also same =
      let e : one.links ≡ other.links = laws.one_linking traces one.links other.links whole.linked also.linked in
      let P : LinkRows → Type 0 = λ links. IsLeast traces links one.schedule in
      let s : one.schedule ≡ other.schedule = laws.one_least traces other.links one.schedule other.schedule (subst P e is) same in
      ap (λ (links : LinkRows). record { links = links; schedule = one.schedule }) e ∙ ap (λ (schedule : List ℕ). record { links = other.links; schedule = schedule }) s

  -- events come to one thing at most
  one_of : (one other : Inference) → IsInferredOf traces one → IsInferredOf traces other → one ≡ other
  one_of (Diverging divergence) other is same = absurd is
  one_of (Unlinked refusal) (Diverging divergence) is same = absurd same
  one_of (Unlinked refusal) (Unlinked other) is same = ap Unlinked (laws.one_refusal traces refusal other is same)
  one_of (Unlinked refusal) (Circular cycle) is same = absurd (same.1.0.unrefused refusal is.refused)
  one_of (Unlinked refusal) (Ordered inferred) is same = absurd (same.0.unrefused refusal is.refused)
  one_of (Circular cycle) (Diverging divergence) is same = absurd same
  one_of (Circular cycle) (Unlinked refusal) is same = absurd (is.1.0.unrefused refusal same.refused)
  one_of (Circular cycle) (Circular other) is same = ap Circular (circles is.0 same.0 cycle other is.1.0 is.1.1 same.1.0 same.1.1)
  one_of (Circular cycle) (Ordered inferred) is same = absurd (circular_or_ordered is.0 cycle inferred is.1.0 is.1.1 same.0 same.1)
  one_of (Ordered inferred) (Diverging divergence) is same = absurd same
  one_of (Ordered inferred) (Unlinked refusal) is same = absurd (is.0.unrefused refusal same.refused)
  one_of (Ordered inferred) (Circular cycle) is same = absurd (circular_or_ordered same.0 cycle inferred same.1.0 same.1.1 is.0 is.1)
  one_of (Ordered inferred) (Ordered other) is same = ap Ordered (orders inferred other is.0 is.1 same.0 same.1)

-- threads that were followed come to one thing at most
pub one_inference : Laws → (p : Listing) (r : Result (List Followed) Divergence) (one other : Inference) → IsInferredBy p r one → IsInferredBy p r other → one ≡ other
one_inference laws p (Err divergence) one other is same = is ∙ sym same
one_inference laws p (Ok all) one other is same = one_of laws (traces_of p all) one other is same

-- Cycles of the direct order, and the one of them that is told.
use Rattle.std.specs.Prelude.{◌≡◌, ◌<◌, ◌≤◌, ◌⊎◌, Bool, true, List, [], ◌∷◌, Contains}
use Rattle.interleavings.specs.declared.traces.Place.{Place}
use Rattle.interleavings.specs.TraceLists.{TraceLists}
use Rattle.event_order.specs.DirectOrder.{Direct, LinkRows}
use Rattle.event_order.specs.Extensions.{IsPlace}

-- the first place stands before the other by thread, then place, or is the same
abbrev pub AtMost : Place → Place → Type 0
AtMost a b = (a.thread < b.thread) ⊎ ((a.thread ≡ b.thread) × (a.place ≤ b.place))

-- the first of the places, or this one where there is none
abbrev pub first_or : List Place → Place → Place
first_or [] end = end
first_or (at ∷ rest) end = at

-- the relation goes from each of the places to the next, and from the last to the end
abbrev pub Leads : (Place → Place → Type 0) → List Place → Place → Type 0
Leads relation [] end = Unit {0}
Leads relation (at ∷ rest) end = relation at (first_or rest end) × Leads relation rest end

-- there is a place, and the relation goes from each to the next, and from the last to the first
abbrev pub IsRing : (Place → Place → Type 0) → List Place → Type 0
IsRing relation [] = ⊥
IsRing relation (at ∷ rest) = Leads relation (at ∷ rest) at

-- there are events at both places, and that at the first is a direct predecessor of that at the second
pub record Precedes (traces : TraceLists) (links : LinkRows) (before after : Place) : Type 0 where
  pub first : IsPlace traces before
  pub second : IsPlace traces after
  pub direct : Direct traces links before after

-- the events at the places are a cycle: each is a direct predecessor of the next, and the last of the first
abbrev pub IsCycle : TraceLists → LinkRows → List Place → Type 0
IsCycle traces links places = IsRing (Precedes traces links) places

-- each event of the set has a direct predecessor in the set
abbrev pub IsStuck : TraceLists → LinkRows → (Place → Bool) → Type 0
IsStuck traces links set = (at : Place) → set at ≡ true → (before : Place) × Precedes traces links before at × (set before ≡ true)

-- the event at the place is in the greatest set in which each has a direct predecessor: in the union of all such sets
pub record IsLeft (traces : TraceLists) (links : LinkRows) (at : Place) : Type 0 where
  pub set : Place → Bool
  pub has : set at ≡ true
  pub stuck : IsStuck traces links set

-- the step back from an event: its least direct predecessor in the greatest such set, by thread, then place
pub record StepsBack (traces : TraceLists) (links : LinkRows) (at back : Place) : Type 0 where
  pub before : Precedes traces links back at
  pub left : IsLeft traces links back
  pub least : (other : Place) → Precedes traces links other at → IsLeft traces links other → AtMost back other

-- steps from the start lead into a round: the list is that round against the direction of the steps, once, from its least
-- place on
pub record IsRoundFrom (steps : Place → Place → Type 0) (start : Place) (round : List Place) : Type 0 where
  pub way : List Place
  pub begin : Place
  pub others : List Place
  pub starts : first_or way begin ≡ start
  pub leads : Leads steps way begin
  pub parts : round ≡ begin ∷ others
  pub goes_round : IsRing (λ before after. steps after before) round
  pub once : Contains others begin → ⊥
  pub least : (at : Place) → Contains others at → AtMost begin at

-- the cycle that is told: that into which steps back lead from the least event of the greatest set in which each has a direct
-- predecessor
pub record IsTheCycle (traces : TraceLists) (links : LinkRows) (cycle : List Place) : Type 0 where
  pub start : Place
  pub left : IsLeft traces links start
  pub least : (other : Place) → IsLeft traces links other → AtMost start other
  pub round : IsRoundFrom (StepsBack traces links) start cycle

-- The least of the schedules of all extensions.
use Rattle.std.specs.Prelude.{◌≡◌, ℕ, ◌<◌, ◌⊎◌, Bool, false, List, [], ◌∷◌}
use Rattle.interleavings.specs.declared.traces.Place.{Place}
use Rattle.interleavings.specs.TraceLists.{TraceLists}
use Rattle.event_order.specs.DirectOrder.{LinkRows}
use Rattle.event_order.specs.Extensions.{Extends, schedule_of}

-- the first list stands before the other in dictionary order, or is the same
abbrev pub NotBehind : List ℕ → List ℕ → Type 0
NotBehind [] other = Unit {0}
NotBehind (x ∷ xs) [] = ⊥
NotBehind (x ∷ xs) (y ∷ ys) = (x < y) ⊎ ((x ≡ y) × NotBehind xs ys)

-- the schedule is that of places that go on from what stands until each event stands, and behind that of no other such places
pub record IsLeastFrom (traces : TraceLists) (links : LinkRows) (stands : Place → Bool) (schedule : List ℕ) : Type 0 where
  pub places : List Place
  pub extends : Extends traces links stands places
  pub of_places : schedule ≡ schedule_of places
  pub least : (others : List Place) → Extends traces links stands others → NotBehind schedule (schedule_of others)

-- the schedule is the least in dictionary order of the schedules of all extensions
abbrev pub IsLeast : TraceLists → LinkRows → List ℕ → Type 0
IsLeast traces links schedule = IsLeastFrom traces links (λ at. false) schedule

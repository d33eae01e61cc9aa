-- Steps that are followed until a place comes a second time.
use Rattle.std.specs.Prelude.{◌≡◌, ℕ, ◌+◌, List, ◌∷◌, ◌++◌, Some, drop, reverse, slice_get, take}
use Rattle.interleavings.specs.declared.traces.Place.{Place}
use Rattle.event_order.specs.Cycles.{AtMost, Leads, first_or}

-- each of the places is met once
abbrev pub IsOnce : List Place → Type 0
IsOnce met = (i j : ℕ) (at : Place) → slice_get met i ≡ Some at → slice_get met j ≡ Some at → i ≡ j

-- the steps from the start on meet these places, and the step from the last is to the one with this number
pub record IsWalked (steps : Place → Place → Type 0) (start : Place) (met : List Place) (again : ℕ) : Type 0 where
  pub at : Place
  pub chain : Leads steps met at
  pub starts : first_or met at ≡ start
  pub there : slice_get met again ≡ Some at
  pub once : IsOnce met

-- the list begins with a least place of the ring, and goes on from there backwards and round
pub record IsTurned (ring : List Place) (list : List Place) : Type 0 where
  pub number : ℕ
  pub begin : Place
  pub there : slice_get ring number ≡ Some begin
  pub parts : list ≡ begin ∷ (reverse (take number ring) ++ reverse (drop (number + 1) ring))
  pub least : (i : ℕ) (at : Place) → slice_get ring i ≡ Some at → AtMost begin at

-- steps were followed from the start until a place came a second time, and the list is of the places between: against the
-- direction of the steps, from the least of them on
pub record IsFollowed (steps : Place → Place → Type 0) (start : Place) (list : List Place) : Type 0 where
  pub met : List Place
  pub again : ℕ
  pub walked : IsWalked steps start met again
  pub turned : IsTurned (drop again met) list

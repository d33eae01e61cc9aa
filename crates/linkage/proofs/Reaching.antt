-- What was gone through, as rounds go on.
use Rattle.std.proofs.Common.{◌≡◌, ℕ, ◌+◌, ◌<◌, ◌≤◌, ◌⊎◌, inl, inr, List, [], ◌∷◌, length, min, take, drop, refl, arith}
use Rattle.std.specs.List.{sum_by}
use Rattle.std.proofs.Math.Nat.{eq-or-lt_of_le}
use Rattle.std.proofs.lemmas.List.Sums.{sum_by-cons, sum_by-take-drop, sum_by_more, sum_by-drop_more}
use Rattle.interleavings.specs.declared.event.Event.{Event}
use Rattle.interleavings.specs.declared.traces.Place.{Place}
use Rattle.interleavings.specs.TraceLists.{TraceLists}
use Rattle.linkage.specs.GatherShows.{place_at}
use Rattle.linkage.specs.Rounds.{IsReached, first_events, gone_through, sum_first}
use Rattle.linkage.specs.Sources.{event_count}
use Rattle.linkage.proofs.Frontier.{same_place, IsOneMore}

-- places
module _ (from to t : ℕ) where
  pub reached_further : (i : ℕ) (place : Place) → IsReached from to (place_at t i) place → IsReached from to (place_at t (i + 1)) place
  reached_further i place reached =
      elim reached [
        | inl before ↦ inl before
        | inr now ↦ elim now [ inl earlier ↦ inr (inl earlier) | inr same ↦ inr (inr (same.0, omega (arith, same.1))) ]
      ]

  pub reached_last : (i : ℕ) (place : Place) → IsReached from to (place_at t (i + 1)) place → IsReached from to (place_at t i) place ⊎ (place ≡ place_at t i)
  reached_last i place reached =
      elim reached [
        | inl before ↦ inl (inl before)
        | inr now ↦
            elim now [
              | inl earlier ↦ inl (inr (inl earlier))
              | inr same ↦
                  elim (eq-or-lt_of_le {n = place.place} {m = i} (omega (arith, same.1))) [
                    | inl last ↦ inr (same_place place t i same.0 last)
                    | inr less ↦ inl (inr (inr (same.0, less)))
                  ]
            ]
      ]

  pub reached_here : (i : ℕ) → IsReached from to (place_at t (i + 1)) (place_at t i)
  reached_here i = inr (inr (refl, omega arith))

  pub not_reached_itself : (i : ℕ) → from ≤ i → IsReached from to (place_at t i) (place_at t i) → ⊥
  not_reached_itself i start reached =
      elim reached [
        | inl before ↦ omega (arith, before, start)
        | inr now ↦ elim now [ inl earlier ↦ omega (arith, earlier.1) | inr same ↦ omega (arith, same.1) ]
      ]

  -- an event more of a thread
  pub one_reached : (i : ℕ) → from ≤ i → IsOneMore (IsReached from to (place_at t i)) (IsReached from to (place_at t (i + 1))) (place_at t i)
  one_reached i start = record { kept = reached_further i; here = reached_here i; last = reached_last i; fresh = not_reached_itself i start }

  -- where a thread's part of the round begins, only what was gone through with the threads before is reached
  pub reached_at_start : (start : ℕ) → start ≤ from → (place : Place) → IsReached from to (place_at t start) place → (place.place < from) ⊎ ((place.place < to) × (place.thread < t))
  reached_at_start start low place reached =
      elim reached [
        | inl before ↦ inl before
        | inr now ↦ elim now [ inl earlier ↦ inr earlier | inr same ↦ inl (omega (arith, same.1, low)) ]
      ]

  pub reached_from_start : (start other : ℕ) → start ≤ from → (place : Place) → IsReached from to (place_at t start) place → IsReached from to (place_at t other) place
  reached_from_start start other low place reached = elim (reached_at_start start low place reached) [ inl before ↦ inl before | inr earlier ↦ inr (inl earlier) ]

-- the end of a thread's part of a round is the start of the next thread's
module _ (from to t stop next : ℕ) (low : next ≤ from) (place : Place) where
  pub reached_to_next : stop ≤ to → IsReached from to (place_at t stop) place → IsReached from to (place_at (t + 1) next) place
  reached_to_next most reached =
      elim reached [
        | inl before ↦ inl before
        | inr now ↦ elim now [ inl earlier ↦ inr (inl (earlier.0, omega (arith, earlier.1))) | inr same ↦ inr (inl (omega (arith, same.1, most), omega (arith, same.0))) ]
      ]

  pub reached_from_next : (place.thread ≡ t → place.place < to → place.place < stop) → IsReached from to (place_at (t + 1) next) place → IsReached from to (place_at t stop) place
  reached_from_next inside reached =
      elim (reached_at_start from to (t + 1) next low place reached) [
        | inl before ↦ inl before
        | inr earlier ↦
            elim (eq-or-lt_of_le {n = place.thread} {m = t} (omega (arith, earlier.1))) [
              | inl same ↦ inr (inr (same, inside same earlier.0))
              | inr less ↦ inr (inl (earlier.0, less))
            ]
      ]

-- the end of a round is the start of the next
module _ (from to later threads start next : ℕ) (on : from ≤ to) (low : start ≤ from) (next_low : next ≤ to) (place : Place) (there : place.thread < threads) where
  pub reached_to_round : IsReached from to (place_at threads start) place → IsReached to later (place_at 0 next) place
  reached_to_round reached =
      elim (reached_at_start from to threads start low place reached) [
        | inl before ↦ inl (omega (arith, before, on))
        | inr earlier ↦ inl earlier.0
      ]

  pub reached_from_round : IsReached to later (place_at 0 next) place → IsReached from to (place_at threads start) place
  reached_from_round reached =
      elim (reached_at_start to later 0 next next_low place reached) [
        | inl before ↦ inr (inl (before, there))
        | inr earlier ↦ absurd (omega (arith, earlier.1))
      ]

-- before the first round nothing was gone through
pub nothing_reached : (to : ℕ) (place : Place) → IsReached 0 to (place_at 0 0) place → ⊥
nothing_reached to place reached =
    elim reached [
      | inl before ↦ omega (arith, before)
      | inr now ↦ elim now [ inl earlier ↦ omega (arith, earlier.1) | inr same ↦ omega (arith, same.1) ]
    ]

-- counts
pub sum_first_most : (count : ℕ) (rows : List (List Event)) → sum_first count rows ≤ sum_by length rows
sum_first_most count [] = omega arith
sum_first_most count (row ∷ rows) = omega (arith, sum_by-cons (λ (events : List Event). min count (length events)) row rows, sum_by-cons length row rows, sum_first_most count rows)

sum_first_grows : (from to : ℕ) → from ≤ to → (rows : List (List Event)) → sum_first from rows ≤ sum_first to rows
sum_first_grows from to on [] = omega arith
sum_first_grows from to on (row ∷ rows) =
    omega (arith, on, sum_by-cons (λ (events : List Event). min from (length events)) row rows, sum_by-cons (λ (events : List Event). min to (length events)) row rows, sum_first_grows from to on rows)

module _ (traces : TraceLists) where
  pub gone_on : (from to t : ℕ) → t < length traces.events → gone_through traces from to (t + 1) + first_events traces from t ≡ gone_through traces from to t + first_events traces to t
  gone_on from to t there =
      omega (
        arith,
        sum_by_more (λ (events : List Event). min to (length events)) traces.events t [] there,
        sum_by-drop_more (λ (events : List Event). min from (length events)) traces.events t [] there,
      )

  pub gone_most : (from to t : ℕ) → gone_through traces from to t ≤ event_count traces
  gone_most from to t = omega (arith, sum_first_most to (take t traces.events), sum_first_most from (drop t traces.events), sum_by-take-drop length traces.events t)

  -- no more than by the end of the round
  pub gone_by_end : (from to t : ℕ) → from ≤ to → gone_through traces from to t ≤ sum_first to traces.events
  gone_by_end from to t on =
      omega (arith, sum_first_grows from to on (drop t traces.events), sum_by-take-drop (λ (events : List Event). min to (length events)) traces.events t)

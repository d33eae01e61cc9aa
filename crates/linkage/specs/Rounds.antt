-- How far events were gone through where all threads are gone through side by side, so many events of each in a round.
use Rattle.std.specs.Prelude.{◌≡◌, ℕ, ◌+◌, ◌<◌, ◌⊎◌, List, Option, drop, length, min, take}
use Rattle.std.specs.List.{sum_by}
use Rattle.interleavings.specs.declared.event.Event.{Event}
use Rattle.interleavings.specs.declared.traces.Place.{Place}
use Rattle.interleavings.specs.TraceLists.{TraceLists, events_of}
use Rattle.linkage.specs.declared.numbered.Numbered.{Numbered}
use Rattle.linkage.specs.GatherShows.{GivenAt}

-- the event was gone through: in a round before, in this round with an earlier thread, or as an earlier one of this thread
abbrev pub IsReached : ℕ → ℕ → Place → Place → Type 0
IsReached from to at place = (place.place < from) ⊎ (((place.place < to) × (place.thread < at.thread)) ⊎ ((place.thread ≡ at.thread) × (place.place < at.place)))

-- what is given from the start, or by an event that was gone through
abbrev pub Reached : {V : Type 0} → ℕ → ℕ → Place → (Option Place → Numbered V → Type 0) → Option Place → Numbered V → Type 0
Reached from to at given = GivenAt (IsReached from to at) given

-- how many of a thread's first events there are
abbrev pub first_events : TraceLists → ℕ → ℕ → ℕ
first_events traces count thread = min count (length (events_of traces thread))

-- how many of the first events of all these threads there are
abbrev pub sum_first : ℕ → List (List Event) → ℕ
sum_first count rows = sum_by (λ events. min count (length events)) rows

-- how many events were gone through: of the threads before this one in this round too, of the others in the rounds before
abbrev pub gone_through : TraceLists → ℕ → ℕ → ℕ → ℕ
gone_through traces from to thread = sum_first to (take thread traces.events) + sum_first from (drop thread traces.events)

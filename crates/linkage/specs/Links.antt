-- Links: of each read, the write that it is taken to have read.
use Rattle.std.specs.Prelude.{◌≡◌, ℕ, ◌+◌, ◌*◌, ◌≤◌, List, [], Option, Some, None, length}
use Rattle.std.specs.List.{slice_index_or}
use Rattle.std.specs.Option.{option_and_then}
use Rattle.interleavings.specs.declared.traces.Place.{Place}
use Rattle.interleavings.specs.Events.{bound_of}
use Rattle.interleavings.specs.TraceLists.{TraceLists, events_of}
use Rattle.linkage.specs.Sources.{event_at, event_count, Stored, IsReadAt}

-- the greatest number within the bound whose write of the cell stored this value
pub record IsLink (traces : TraceLists) (cell value bound number : ℕ) : Type 0 where
  pub within : number ≤ bound
  pub equal : Stored traces cell number value
  pub greatest : (other : ℕ) → other ≤ bound → Stored traces cell other value → other ≤ number

-- the links of a thread's events
abbrev pub links_of : List (List (Option ℕ)) → ℕ → List (Option ℕ)
links_of links thread = slice_index_or links thread []

-- the link of the event at a place; none past the end
abbrev pub link_at : List (List (Option ℕ)) → Place → Option ℕ
link_at links place = slice_index_or (links_of links place.thread) place.place None

-- there is a link of each event: of each read the number of its write, and none of any other event
pub record IsLinked (traces : TraceLists) (links : List (List (Option ℕ))) : Type 0 where
  pub threads : length links ≡ length traces.events
  pub counts : (thread : ℕ) → length (links_of links thread) ≡ length (events_of traces thread)
  pub reads : (place : Place) (cell value bound : ℕ) → IsReadAt traces place cell value bound → (number : ℕ) × (link_at links place ≡ Some number) × IsLink traces cell value bound number
  pub others : (place : Place) → option_and_then bound_of (event_at traces place) ≡ None → link_at links place ≡ None

-- how many looks at events and at members of the index linking takes at most
abbrev pub most_looks : TraceLists → ℕ
most_looks traces = 96 * (event_count traces + 1)

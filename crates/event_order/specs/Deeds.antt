-- What events are to the order: which slot an event fills, and which slots have to be filled before it.
use Rattle.std.specs.Prelude.{◌≡◌, ℕ, zero, suc, ◌+◌, ◌*◌, ◌<◌, ◌⊎◌, List, [], Option, Some, None, length, unwrap_or, slice_get, slice_index_or, option_and_then, option_map}
use Rattle.interleavings.specs.declared.event.Event.{Event}
use Rattle.interleavings.specs.declared.event.Event.TheVariants as events
use Rattle.interleavings.specs.declared.traces.Place.{Place}
use Rattle.interleavings.specs.TraceLists.{TraceLists, events_of}
use Rattle.linkage.specs.Links.{link_at, links_of, IsLinked}
use Rattle.linkage.specs.Sources.{event_at}
use Rattle.event_order.specs.DirectOrder.{LinkRows}
use Rattle.event_order.specs.declared.deed.Deed.{Deed}
use Rattle.event_order.specs.declared.deed.Deed.TheVariants as deeds
use Rattle.event_order.specs.declared.slot.Slot.{Slot}

-- what an event with this link is to the order; an update is a write
abbrev pub deed_of : Event → Option ℕ → Deed
deed_of (events.Read cell value bound) link = deeds.Read cell (unwrap_or link 0)
deed_of (events.Write cell value number) link = deeds.Write cell number
deed_of (events.Update cell old new number) link = deeds.Write cell number
deed_of (events.Enter monitor turn) link = deeds.Enter monitor turn
deed_of (events.Exit monitor turn) link = deeds.Exit monitor turn

-- the number of the cell or the monitor of an event
abbrev pub owner_of : Event → ℕ
owner_of (events.Read cell value bound) = cell
owner_of (events.Write cell value number) = cell
owner_of (events.Update cell old new number) = cell
owner_of (events.Enter monitor turn) = monitor
owner_of (events.Exit monitor turn) = monitor

-- the number of the cell or the monitor of a deed
abbrev pub owner_in : Deed → ℕ
owner_in (deeds.Write cell number) = cell
owner_in (deeds.Read cell number) = cell
owner_in (deeds.Enter monitor turn) = monitor
owner_in (deeds.Exit monitor turn) = monitor

-- the number of its write or its turn
abbrev pub number_in : Deed → ℕ
number_in (deeds.Write cell number) = number
number_in (deeds.Read cell number) = number
number_in (deeds.Enter monitor turn) = turn
number_in (deeds.Exit monitor turn) = turn

-- which of the rows of its cell or its monitor it fills
abbrev pub sort_in : Deed → ℕ
sort_in (deeds.Write cell number) = 0
sort_in (deeds.Read cell number) = 1
sort_in (deeds.Enter monitor turn) = 2
sort_in (deeds.Exit monitor turn) = 2

-- the slot that a deed fills
abbrev pub gives_of : Deed → Option Slot
gives_of (deeds.Write cell number) = Some (record { row = 3 * cell; number = number })
gives_of (deeds.Read cell number) = Some (record { row = 3 * cell + 1; number = number })
gives_of (deeds.Enter monitor turn) = None
gives_of (deeds.Exit monitor turn) = Some (record { row = 3 * monitor + 2; number = turn })

-- the slot of a row that stands before a number, if there is one
abbrev pub earlier : ℕ → ℕ → Option Slot
earlier row zero = None
earlier row (suc number) = Some (record { row = row; number = number })

-- a slot that has to be filled before a deed: by the write before a write, by the write that a read is linked to, by the exits
-- of the turn before
abbrev pub needs_of : Deed → Option Slot
needs_of (deeds.Write cell number) = earlier (3 * cell) number
needs_of (deeds.Read cell number) = Some (record { row = 3 * cell; number = number })
needs_of (deeds.Enter monitor turn) = earlier (3 * monitor + 2) turn
needs_of (deeds.Exit monitor turn) = None

-- the other one: by the reads that are linked to the write before a write
abbrev pub needs_too_of : Deed → Option Slot
needs_too_of (deeds.Write cell number) = earlier (3 * cell + 1) number
needs_too_of (deeds.Read cell number) = None
needs_too_of (deeds.Enter monitor turn) = None
needs_too_of (deeds.Exit monitor turn) = None

-- the slot has to be filled before the deed
abbrev pub Needs : Deed → Slot → Type 0
Needs deed slot = (needs_of deed ≡ Some slot) ⊎ (needs_too_of deed ≡ Some slot)

-- the deeds of a thread
abbrev pub deeds_of : List (List Deed) → ℕ → List Deed
deeds_of rows thread = slice_index_or rows thread []

-- how many deeds a thread has
abbrev pub size : List (List Deed) → ℕ → ℕ
size rows thread = length (deeds_of rows thread)

-- the deed at a place, if one is there
abbrev pub deed_at : List (List Deed) → Place → Option Deed
deed_at rows at = slice_get (deeds_of rows at.thread) at.place

-- the slot that the deed at a place fills
abbrev pub gives_at : List (List Deed) → Place → Option Slot
gives_at rows at = option_and_then gives_of (deed_at rows at)

-- the deed at a place has to wait for the slot
pub record NeedsAt (rows : List (List Deed)) (at : Place) (slot : Slot) : Type 0 where
  pub deed : Deed
  pub there : deed_at rows at ≡ Some deed
  pub needs : Needs deed slot

-- what the event at a place is to the order, if one is there
abbrev pub deed_in : TraceLists → LinkRows → Place → Option Deed
deed_in traces links at = option_map (λ event. deed_of event (link_at links at)) (event_at traces at)

-- there is a link for each event
pub record IsFit (traces : TraceLists) (links : LinkRows) : Type 0 where
  pub threads : length links ≡ length traces.events
  pub counts : (thread : ℕ) → length (links_of links thread) ≡ length (events_of traces thread)

-- the first deeds of a thread, so many of them, are those of its events
pub record IsRowOf (traces : TraceLists) (links : LinkRows) (thread count : ℕ) (row : List Deed) : Type 0 where
  pub count_is : length row ≡ count
  pub deeds : (i : ℕ) → i < count → slice_get row i ≡ deed_in traces links (record { thread = thread; place = i })

-- the deeds of the first threads, so many of them, are those of their events
pub record AreRowsOf (traces : TraceLists) (links : LinkRows) (threads : ℕ) (rows : List (List Deed)) : Type 0 where
  pub threads_are : length rows ≡ threads
  pub each : (thread : ℕ) → thread < threads → IsRowOf traces links thread (length (events_of traces thread)) (deeds_of rows thread)

-- the deeds are those of the events
pub record AreDeedsOf (traces : TraceLists) (links : LinkRows) (rows : List (List Deed)) : Type 0 where
  pub linked : IsLinked traces links
  pub deeds : (at : Place) → deed_at rows at ≡ deed_in traces links at

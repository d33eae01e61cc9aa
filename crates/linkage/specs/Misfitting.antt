-- What contracts see of linking event by event.
use Rattle.std.specs.Prelude.{◌≡◌, ℕ, ◌+◌, ◌<◌, ◌≤◌, ◌⊎◌, List, [], Bool, true, false, Option, Some, None, Result, Ok, Err, length}
use Rattle.std.specs.List.{slice_index_or}
use Rattle.std.specs.Option.{option_and_then}
use Rattle.interleavings.specs.declared.traces.Place.{Place}
use Rattle.interleavings.specs.Events.{bound_of}
use Rattle.interleavings.specs.TraceLists.{TraceLists, events_of}
use Rattle.linkage.specs.declared.finding.Finding.{Finding}
use Rattle.linkage.specs.declared.finding.Finding.TheVariants.{Linked, Unlinked, TooLarge, Unequal, Mismatch}
use Rattle.linkage.specs.declared.link_error.LinkError.{LinkError}
use Rattle.linkage.specs.declared.link_error.LinkError.TheVariants.{BoundTooLarge, NoEqualWrite, UpdateMismatch}
use Rattle.linkage.specs.declared.misfits.Misfits.{Misfits}
use Rattle.linkage.specs.GatherShows.{IsBefore, place_at}
use Rattle.linkage.specs.Links.{IsLink}
use Rattle.linkage.specs.Refusals.{IsBoundTooLarge, IsUnequal, IsMismatch}
use Rattle.linkage.specs.Rounds.{first_events}
use Rattle.linkage.specs.Sources.{event_at, Stored, IsReadAt}

-- whether the write numbered one below the number stored the old value
abbrev pub IsOldStored : TraceLists → ℕ → ℕ → ℕ → Bool → Type 0
IsOldStored traces cell old number true = (below : ℕ) × (below + 1 ≡ number) × Stored traces cell below old
IsOldStored traces cell old number false = (below : ℕ) → below + 1 ≡ number → Stored traces cell below old → ⊥

-- the read at the place is linked to the write of this number
pub record IsLinkedAt (traces : TraceLists) (place : Place) (number : ℕ) : Type 0 where
  pub cell : ℕ
  pub value : ℕ
  pub bound : ℕ
  pub reads : IsReadAt traces place cell value bound
  pub link : IsLink traces cell value bound number

-- the event at the place is no read
abbrev pub IsUnread : TraceLists → Place → Type 0
IsUnread traces place = option_and_then bound_of (event_at traces place) ≡ None

-- what is told of these three misfits
abbrev pub told_by : Option Place → Option Place → Option Place → Result (Unit {0}) LinkError
told_by (Some place) unequal mismatch = Err (BoundTooLarge place)
told_by None (Some place) mismatch = Err (NoEqualWrite place)
told_by None None (Some place) = Err (UpdateMismatch place)
told_by None None None = Ok tt

-- what was found at the place is so, and of the misfits none that is not told
abbrev pub IsFinding : TraceLists → Place → Finding → Type 0
IsFinding traces place (Linked number) = IsLinkedAt traces place number × (IsBoundTooLarge traces place → ⊥) × (IsUnequal traces place → ⊥) × (IsMismatch traces place → ⊥)
IsFinding traces place Unlinked = IsUnread traces place × (IsBoundTooLarge traces place → ⊥) × (IsUnequal traces place → ⊥) × (IsMismatch traces place → ⊥)
IsFinding traces place TooLarge = IsBoundTooLarge traces place
IsFinding traces place Unequal = IsUnequal traces place × (IsBoundTooLarge traces place → ⊥) × (IsMismatch traces place → ⊥)
IsFinding traces place Mismatch = IsMismatch traces place × (IsBoundTooLarge traces place → ⊥) × (IsUnequal traces place → ⊥) × IsUnread traces place

-- the first of the seen places that is such a misfit, if one is
abbrev pub IsFirstOf : (Place → Type 0) → (Place → Type 0) → Option Place → Type 0
IsFirstOf misfit seen None = (place : Place) → seen place → misfit place → ⊥
IsFirstOf misfit seen (Some found) = misfit found × ((place : Place) → seen place → IsBefore place found → misfit place → ⊥)

-- the first misfits of the seen places; those of the other kinds count only where no bound is too large
pub record IsProgress (traces : TraceLists) (seen : Place → Type 0) (misfits : Misfits) : Type 0 where
  pub too_large : IsFirstOf (IsBoundTooLarge traces) seen misfits.too_large
  pub unequal : misfits.too_large ≡ None → IsFirstOf (IsUnequal traces) seen misfits.unequal
  pub mismatch : misfits.too_large ≡ None → IsFirstOf (IsMismatch traces) seen misfits.mismatch

-- of the known place and this one, the one that is not after the other
abbrev pub IsEarlierOf : Option Place → Place → Place → Type 0
IsEarlierOf None place earlier = earlier ≡ place
IsEarlierOf (Some known) place earlier = ((earlier ≡ known) × (IsBefore place known → ⊥)) ⊎ ((earlier ≡ place) × IsBefore place known)

-- the earlier place is kept
abbrev pub IsKept : Option Place → Place → Option Place → Type 0
IsKept known place kept = (earlier : Place) × (kept ≡ Some earlier) × IsEarlierOf known place earlier

-- what is kept of a finding, and the link
abbrev pub IsNoted : Misfits → Place → Finding → Misfits → Option ℕ → Type 0
IsNoted old place (Linked number) new link = (new ≡ old) × (link ≡ Some number)
IsNoted old place Unlinked new link = (new ≡ old) × (link ≡ None)
IsNoted old place TooLarge new link = IsKept old.too_large place new.too_large × (new.unequal ≡ old.unequal) × (new.mismatch ≡ old.mismatch) × (link ≡ None)
IsNoted old place Unequal new link = (new.too_large ≡ old.too_large) × IsKept old.unequal place new.unequal × (new.mismatch ≡ old.mismatch) × (link ≡ None)
IsNoted old place Mismatch new link = (new.too_large ≡ old.too_large) × (new.unequal ≡ old.unequal) × IsKept old.mismatch place new.mismatch × (link ≡ None)

-- the link of a place, unless the bound of its read is too large or no equal write is within it
pub record IsLinkAt (traces : TraceLists) (place : Place) (link : Option ℕ) : Type 0 where
  pub read : (cell value bound : ℕ) → IsReadAt traces place cell value bound → IsBoundTooLarge traces place ⊎ (IsUnequal traces place ⊎ ((number : ℕ) × (link ≡ Some number) × IsLink traces cell value bound number))
  pub unread : IsUnread traces place → link ≡ None

-- the links of the first events of a thread
pub record IsRowUpTo (traces : TraceLists) (thread high : ℕ) (row : List (Option ℕ)) : Type 0 where
  pub count : length row ≡ high
  pub each : (i : ℕ) → i < high → IsLinkAt traces (place_at thread i) (slice_index_or row i None)

-- the links of a thread's events
abbrev pub IsRowLinked : TraceLists → ℕ → List (Option ℕ) → Type 0
IsRowLinked traces thread row = IsRowUpTo traces thread (length (events_of traces thread)) row

-- the links of the first threads
pub record AreRowsLinked (traces : TraceLists) (threads : ℕ) (rows : List (List (Option ℕ))) : Type 0 where
  pub count : length rows ≡ threads
  pub each : (thread : ℕ) → thread < threads → IsRowLinked traces thread (slice_index_or rows thread [])

-- the links of the first events of each thread, so many of each
pub record AreRowsUpTo (traces : TraceLists) (count : ℕ) (rows : List (List (Option ℕ))) : Type 0 where
  pub threads : length rows ≡ length traces.events
  pub each : (thread : ℕ) → thread < length traces.events → IsRowUpTo traces thread (first_events traces count thread) (slice_index_or rows thread [])

-- in a round the links of the threads before this one go up to the end of the round, and those of the others up to its start
pub record AreRowsBetween (traces : TraceLists) (from to thread : ℕ) (rows : List (List (Option ℕ))) : Type 0 where
  pub threads : length rows ≡ length traces.events
  pub done : (t : ℕ) → t < thread → IsRowUpTo traces t (first_events traces to t) (slice_index_or rows t [])
  pub ahead : (t : ℕ) → thread ≤ t → t < length traces.events → IsRowUpTo traces t (first_events traces from t) (slice_index_or rows t [])

-- the place is among so many first ones of its thread
abbrev pub IsAmongFirst : ℕ → Place → Type 0
IsAmongFirst count place = place.place < count

-- the first misfit that was kept is told: bounds that are too large before the unequal reads, and these before the mismatches
abbrev pub told_of : Misfits → Result (Unit {0}) LinkError
told_of misfits = told_by misfits.too_large misfits.unequal misfits.mismatch

-- What contracts see of turns that are marked at their places.
use Rattle.std.specs.Prelude.{◌≡◌, ℕ, ◌<◌, ◌≤◌, List, Bool, true, false, length, slice_index, slice_set}
use Rattle.std.specs.List.{slice_index_or}
use Rattle.stride_isa.specs.Limits.{monitor_limit}
use Rattle.interleavings.specs.declared.event.Event.{Event}
use Rattle.interleavings.specs.declared.event.Event.TheVariants.{Read, Write, Update, Enter, Exit}
use Rattle.interleavings.specs.declared.traces.Place.{Place}
use Rattle.interleavings.specs.TraceLists.{TraceLists}
use Rattle.linkage.specs.declared.spans.Spans.{Spans}
use Rattle.linkage.specs.declared.turn_marks.TurnMarks.{TurnMarks}
use Rattle.linkage.specs.AllOf.{IsGivenTwice}
use Rattle.linkage.specs.GatherShows.{EntryGiven, ExitGiven, UpTo}
use Rattle.linkage.specs.Spans.{AreMarks, AreSpans, AreTops, HasPlace, place_of}

-- the spans of the turns of all monitors, up to the greatest that were entered
pub record AreTurnSpans (traces : TraceLists) (spans : Spans) : Type 0 where
  pub shape : AreSpans spans
  pub tops : AreTops (EntryGiven traces) traces.monitors spans.greatest.items
  pub monitors : traces.monitors ≤ monitor_limit

-- the turns that the events before this place enter and leave are marked, and none is entered twice
pub record AreTurnsMarked (traces : TraceLists) (place : Place) (spans : Spans) (marks : TurnMarks) : Type 0 where
  pub entered : AreMarks (UpTo place (EntryGiven traces)) spans marks.entered.items
  pub left : AreMarks (UpTo place (ExitGiven traces)) spans marks.left.items
  pub single : (monitor turn : ℕ) → IsGivenTwice (UpTo place (EntryGiven traces)) monitor turn → ⊥

-- the turn that the event enters has a place, and the monitor that it leaves is there
abbrev pub IsTurnPlaced : Spans → Event → Type 0
IsTurnPlaced spans (Enter monitor turn) = HasPlace spans monitor turn
IsTurnPlaced spans (Exit monitor turn) = monitor < length spans.greatest.items
IsTurnPlaced spans (Read cell value bound) = Unit {0}
IsTurnPlaced spans (Write cell value number) = Unit {0}
IsTurnPlaced spans (Update cell before after number) = Unit {0}

-- what an event marks; nothing is said where the turn that it enters is marked already
abbrev pub IsMarked : Spans → Event → TurnMarks → TurnMarks → Bool → Type 0
IsMarked spans event old new false = Unit {0}
IsMarked spans (Read cell value bound) old new true = new ≡ old
IsMarked spans (Write cell value number) old new true = new ≡ old
IsMarked spans (Update cell before after number) old new true = new ≡ old
IsMarked spans (Enter monitor turn) old new true = (slice_index_or old.entered.items (place_of spans monitor turn) false ≡ false) × (new.entered.items ≡ slice_set old.entered.items (place_of spans monitor turn) true) × (new.left ≡ old.left)
IsMarked spans (Exit monitor turn) old new true = (turn ≤ slice_index spans.greatest.items monitor → new.left.items ≡ slice_set old.left.items (place_of spans monitor turn) true) × (slice_index spans.greatest.items monitor < turn → new.left ≡ old.left) × (new.entered ≡ old.entered)

-- each turn below the greatest that was entered is marked
abbrev pub AreBelowLeft : Spans → List Bool → Type 0
AreBelowLeft spans left = (monitor turn : ℕ) → monitor < length spans.greatest.items → turn < slice_index spans.greatest.items monitor → slice_index_or left (place_of spans monitor turn) false ≡ true

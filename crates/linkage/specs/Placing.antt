-- What contracts see of writes and turns that are put at their places.
use Rattle.std.specs.Prelude.{◌≡◌, ℕ, ◌+◌, ◌*◌, ◌<◌, ◌≤◌, ◌⊎◌, List, Bool, true, false, Option, Some, None, length, max, slice_index, slice_set}
use Rattle.std.specs.List.{slice_index_or}
use Rattle.stride_isa.specs.Limits.{cell_limit, fuel_limit, monitor_limit, thread_limit}
use Rattle.interleavings.specs.declared.event.Event.{Event}
use Rattle.interleavings.specs.declared.event.Event.TheVariants.{Read, Write, Update, Enter, Exit}
use Rattle.interleavings.specs.declared.traces.Place.{Place}
use Rattle.interleavings.specs.Events.{WriteOf}
use Rattle.interleavings.specs.TraceLists.{TraceLists}
use Rattle.linkage.specs.declared.numbered.Numbered.{Numbered}
use Rattle.linkage.specs.declared.placing.Placing.{Placing}
use Rattle.linkage.specs.declared.spans.Spans.{Spans}
use Rattle.linkage.specs.declared.tops.Tops.{Tops}
use Rattle.linkage.specs.AllOf.{IsGivenTwice, WriteGiven}
use Rattle.linkage.specs.Checking.{NoneBelow}
use Rattle.linkage.specs.GatherShows.{EntryGiven, UpTo}
use Rattle.linkage.specs.Sources.{event_count}
use Rattle.linkage.specs.Spans.{AreMarks, AreSpans, AreTops, HasPlace, place_of}

-- the number of an owner is raised to this one, if it is less
abbrev pub raised : List ℕ → ℕ → ℕ → List ℕ
raised greatest owner number = slice_set greatest owner (max (slice_index greatest owner) number)

-- what an event raises
abbrev pub IsRaised : Event → Tops → Tops → Type 0
IsRaised (Read cell value bound) old new = new ≡ old
IsRaised (Write cell value number) old new = (new.writes.items ≡ raised old.writes.items cell number) × (new.entries ≡ old.entries)
IsRaised (Update cell before after number) old new = (new.writes.items ≡ raised old.writes.items cell number) × (new.entries ≡ old.entries)
IsRaised (Enter monitor turn) old new = (new.entries.items ≡ raised old.entries.items monitor turn) × (new.writes ≡ old.writes)
IsRaised (Exit monitor turn) old new = new ≡ old

-- the greatest numbers of the writes, and the greatest turns of the entries, before this place
pub record AreTopsBefore (traces : TraceLists) (place : Place) (tops : Tops) : Type 0 where
  pub writes : AreTops (UpTo place (WriteGiven traces)) (length traces.starts) tops.writes.items
  pub entries : AreTops (UpTo place (EntryGiven traces)) traces.monitors tops.entries.items

-- the greatest numbers of all writes, and the greatest turns of all entries
pub record AreTopsOfAll (traces : TraceLists) (tops : Tops) : Type 0 where
  pub writes : AreTops (WriteGiven traces) (length traces.starts) tops.writes.items
  pub entries : AreTops (EntryGiven traces) traces.monitors tops.entries.items
  pub cells : length traces.starts ≤ cell_limit
  pub monitors : traces.monitors ≤ monitor_limit

-- the spans of the writes of all cells
pub record AreWriteSpans (traces : TraceLists) (spans : Spans) : Type 0 where
  pub shape : AreSpans spans
  pub tops : AreTops (WriteGiven traces) (length traces.starts) spans.greatest.items

-- the values of these writes stand at their places, which are marked, and no two of the writes have one place
pub record IsPlaced (given : Option Place → Numbered ℕ → Type 0) (spans : Spans) (placing : Placing) : Type 0 where
  pub marks : AreMarks given spans placing.filled.items
  pub count : length placing.values.items ≡ spans.places
  pub values : (source : Option Place) (item : Numbered ℕ) → given source item → slice_index placing.values.items (place_of spans item.owner item.number) ≡ item.value
  pub single : (owner number : ℕ) → IsGivenTwice given owner number → ⊥

-- the write's place is there
abbrev pub IsWritePlaced : Spans → Option WriteOf → Type 0
IsWritePlaced spans None = Unit {0}
IsWritePlaced spans (Some write) = HasPlace spans write.cell write.number

-- the value is put at the place, which is marked
abbrev pub IsPut : ℕ → ℕ → Placing → Placing → Type 0
IsPut place value old new = (new.values.items ≡ slice_set old.values.items place value) × (new.filled.items ≡ slice_set old.filled.items place true)

-- the write is put at its place, or that is marked already
abbrev pub IsTaken : Spans → Option WriteOf → Placing → Placing → Bool → Type 0
IsTaken spans None old new result = (new ≡ old) × (result ≡ true)
IsTaken spans (Some write) old new true = (slice_index_or old.filled.items (place_of spans write.cell write.number) false ≡ false) × IsPut (place_of spans write.cell write.number) write.value old new
IsTaken spans (Some write) old new false = slice_index_or old.filled.items (place_of spans write.cell write.number) false ≡ true

-- as many places as there are cells and events
abbrev pub room_of : TraceLists → ℕ
room_of traces = length traces.starts + event_count traces

-- something is wrong with the numbers of writes
abbrev pub IsUnfit : TraceLists → Type 0
IsUnfit traces = NoneBelow traces 3 → ⊥

-- there are more places than there can be writes, or something else is wrong with the numbers of writes
abbrev pub IsUnplaced : TraceLists → Spans → Type 0
IsUnplaced traces spans = (room_of traces < spans.places) ⊎ IsUnfit traces

-- every place is marked
abbrev pub IsFull : List Bool → Type 0
IsFull marks = (i : ℕ) → i < length marks → slice_index_or marks i false ≡ true

-- all writes at their places, which are full, or none where that can't be
abbrev pub IsPlacedAnswer : TraceLists → Spans → Option Placing → Type 0
IsPlacedAnswer traces spans (Some placing) = IsPlaced (WriteGiven traces) spans placing × IsFull placing.filled.items × (spans.places ≤ fuel_limit * thread_limit + cell_limit)
IsPlacedAnswer traces spans None = IsUnplaced traces spans

-- what is given is at its places, or something is wrong with the numbers of writes
abbrev pub IsPlacedOrUnfit : TraceLists → (Option Place → Numbered ℕ → Type 0) → Spans → Placing → Bool → Type 0
IsPlacedOrUnfit traces given spans placing true = IsPlaced given spans placing
IsPlacedOrUnfit traces given spans placing false = IsUnfit traces

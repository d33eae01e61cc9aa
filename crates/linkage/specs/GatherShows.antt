-- What contracts see of all writes and turns while they are gathered.
use Rattle.std.specs.Prelude.{◌≡◌, ℕ, ◌+◌, ◌≤◌, [], ◌∷◌, ◌++◌, Option, Some, None, length, sum_by, take}
use Rattle.stride_isa.specs.Limits.{cell_limit, monitor_limit}
use Rattle.interleavings.specs.declared.event.Event.{Event}
use Rattle.interleavings.specs.declared.event.Event.TheVariants.{Read, Write, Update, Enter, Exit}
use Rattle.interleavings.specs.declared.traces.Place.{Place}
use Rattle.interleavings.specs.TraceLists.{TraceLists}
use Rattle.linkage.specs.declared.gathered.Gathered.{Gathered}
use Rattle.linkage.specs.declared.numbered.Numbered.{Numbered}
use Rattle.linkage.specs.AllOf.{IsAllOf, WriteGiven}
use Rattle.linkage.specs.Numbers.{AreOwned, Earlier}
use Rattle.linkage.specs.Sources.{event_count, IsEntryAt, IsExitAt}

abbrev pub place_at : ℕ → ℕ → Place
place_at thread place = record { thread = thread; place = place }

-- the place stands before the other: its thread is less, or it is the same and the event is earlier
abbrev pub IsBefore : Place → Place → Type 0
IsBefore place other = Earlier place.thread place.place other.thread other.place

-- how many events stand before the place
abbrev pub events_before : TraceLists → Place → ℕ
events_before traces place = sum_by length (take place.thread traces.events) + place.place

-- what is given from the start, or by an event at one of these places
abbrev pub GivenAt : {V : Type 0} → (Place → Type 0) → (Option Place → Numbered V → Type 0) → Option Place → Numbered V → Type 0
GivenAt at given None item = given None item
GivenAt at given (Some source) item = given (Some source) item × at source

-- what is given from the start, or by an event before the place
abbrev pub UpTo : {V : Type 0} → Place → (Option Place → Numbered V → Type 0) → Option Place → Numbered V → Type 0
UpTo place given = GivenAt (λ source. IsBefore source place) given

-- a source of an entry into a monitor
abbrev pub EntryGiven : TraceLists → Option Place → Numbered (Unit {0}) → Type 0
EntryGiven traces source item = IsEntryAt traces source item.owner item.number

-- a source of an exit from a monitor
abbrev pub ExitGiven : TraceLists → Option Place → Numbered (Unit {0}) → Type 0
ExitGiven traces source item = IsExitAt traces source item.owner item.number

-- each item is of a cell or a monitor that is there, of which there are not too many
pub record IsWithin (traces : TraceLists) (gathered : Gathered) : Type 0 where
  pub writes : AreOwned gathered.writes.items (length traces.starts)
  pub entries : AreOwned gathered.entries.items traces.monitors
  pub exits : AreOwned gathered.exits.items traces.monitors
  pub cells : length traces.starts ≤ cell_limit
  pub monitors : traces.monitors ≤ monitor_limit

-- all writes and turns of the events before this place
pub record IsGathered (traces : TraceLists) (place : Place) (gathered : Gathered) : Type 0 where
  pub writes : IsAllOf (UpTo place (WriteGiven traces)) gathered.writes.items
  pub entries : IsAllOf (UpTo place (EntryGiven traces)) gathered.entries.items
  pub exits : IsAllOf (UpTo place (ExitGiven traces)) gathered.exits.items
  pub within : IsWithin traces gathered
  pub few : length gathered.writes.items ≤ length traces.starts + events_before traces place

-- all writes and turns of all events
pub record IsGatheredAll (traces : TraceLists) (gathered : Gathered) : Type 0 where
  pub writes : IsAllOf (WriteGiven traces) gathered.writes.items
  pub entries : IsAllOf (EntryGiven traces) gathered.entries.items
  pub exits : IsAllOf (ExitGiven traces) gathered.exits.items
  pub within : IsWithin traces gathered
  pub few : length gathered.writes.items ≤ length traces.starts + event_count traces

-- what an event adds
abbrev pub IsAdded : Event → Gathered → Gathered → Type 0
IsAdded (Read cell value bound) old new = new ≡ old
IsAdded (Write cell value number) old new = (new.writes.items ≡ old.writes.items ++ record { owner = cell; number = number; value = value } ∷ []) × (new.entries ≡ old.entries) × (new.exits ≡ old.exits)
IsAdded (Update cell before after number) old new = (new.writes.items ≡ old.writes.items ++ record { owner = cell; number = number; value = after } ∷ []) × (new.entries ≡ old.entries) × (new.exits ≡ old.exits)
IsAdded (Enter monitor turn) old new = (new.entries.items ≡ old.entries.items ++ record { owner = monitor; number = turn; value = tt } ∷ []) × (new.writes ≡ old.writes) × (new.exits ≡ old.exits)
IsAdded (Exit monitor turn) old new = (new.exits.items ≡ old.exits.items ++ record { owner = monitor; number = turn; value = tt } ∷ []) × (new.writes ≡ old.writes) × (new.entries ≡ old.entries)

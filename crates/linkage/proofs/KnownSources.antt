-- Where writes and turns come from is known: a search over all places tells.
use Rattle.std.proofs.Common.{◌≡◌, ◌≢◌, ◌∙◌, ℕ, ◌<◌, Option, Some, None, length, refl, ap, ap₂, inl, inr}
use Rattle.std.specs.Prelude.{slice_get}
use Rattle.std.specs.Option.{option_and_then}
use Rattle.std.proofs.lemmas.Bool.{cases_eq}
use Rattle.interleavings.specs.declared.traces.Place.{Place}
use Rattle.interleavings.specs.Events.{WriteOf, TurnOf, write_of, entered_by, left_by}
use Rattle.interleavings.specs.TraceLists.{TraceLists, events_of}
use Rattle.linkage.specs.Sources.{IsWriteAt, IsEntryAt, IsExitAt, Stored, event_at}
use Rattle.linkage.proofs.Deciding.{Known, known_as, known_below, known_both, known_less, known_not, known_some, known_value}
use Rattle.linkage.proofs.Frontier.{inside}
use Rattle.linkage.proofs.Parts.{same_turn, same_write}

-- two sources are the same or not
known_same : (a b : Option Place) → Known (a ≡ b)
known_same None None = inl refl
known_same None (Some b) = inr (λ same. absurd cc)
known_same (Some a) None = inr (λ same. absurd cc)
known_same (Some a) (Some b) = known_as
    (λ both. ap₂ (λ thread place. Some (record { thread = thread; place = place })) both.0 both.1)
    (λ same. let equal : a ≡ b = cc in (ap (λ (p : Place). p.thread) equal, ap (λ (p : Place). p.place) equal))
    (known_both (cases_eq a.thread b.thread) (cases_eq a.place b.place))

-- it is a write of this cell and number or not
known_numbered : (found : Option WriteOf) (cell number : ℕ) → Known ((value : ℕ) × (found ≡ Some (record { cell = cell; number = number; value = value })))
known_numbered None cell number = inr (λ some. absurd (let is = some.1 in cc))
known_numbered (Some write) cell number = known_as
    (λ both. (write.value, ap₂ (λ c n. Some (record { cell = c; number = n; value = write.value })) both.0 both.1))
    (λ some. let parts = same_write write (record { cell = cell; number = number; value = some.0 }) some.1 in (parts.0, parts.1))
    (known_both (cases_eq write.cell cell) (cases_eq write.number number))

-- it is this write or not
known_write_of : (found : Option WriteOf) (cell number value : ℕ) → Known (found ≡ Some (record { cell = cell; number = number; value = value }))
known_write_of None cell number value = inr (λ is. absurd cc)
known_write_of (Some write) cell number value = known_as
    (λ both. ap₂ (λ c n. Some (record { cell = c; number = n; value = write.value })) both.0.0 both.0.1 ∙ ap (λ v. Some (record { cell = cell; number = number; value = v })) both.1)
    (λ is. let parts = same_write write (record { cell = cell; number = number; value = value }) is in ((parts.0, parts.1), parts.2))
    (known_both (known_both (cases_eq write.cell cell) (cases_eq write.number number)) (cases_eq write.value value))

-- it is this turn or not
known_turn_of : (found : Option TurnOf) (monitor turn : ℕ) → Known (found ≡ Some (record { monitor = monitor; turn = turn }))
known_turn_of None monitor turn = inr (λ is. absurd cc)
known_turn_of (Some begun) monitor turn = known_as
    (λ both. ap₂ (λ m n. Some (record { monitor = m; turn = n })) both.0 both.1)
    (λ is. same_turn begun (record { monitor = monitor; turn = turn }) is)
    (known_both (cases_eq begun.monitor monitor) (cases_eq begun.turn turn))

-- where there is none from the start and none of an event, there is none
no_source : (sort : Option Place → Type 0) → (sort None → ⊥) → ((at : Place) × sort (Some at) → ⊥) → (source : Option Place) → sort source → ⊥
no_source sort start none None is = start is
no_source sort start none (Some at) is = none (at, is)

module _ (traces : TraceLists) where
  -- there is an event at the place
  abbrev pub IsInside : Place → Type 0
  IsInside at = (at.place < length (events_of traces at.thread)) × (at.thread < length traces.events)

  -- a place of the sort in a thread
  abbrev InThread : (Place → Type 0) → ℕ → Type 0
  InThread sort thread = (i : ℕ) × (i < length (events_of traces thread)) × sort (record { thread = thread; place = i })

  -- there is a place of the sort or not
  known_place : (sort : Place → Type 0) → ((at : Place) → Known (sort at)) → ((at : Place) → sort at → IsInside at) → Known ((at : Place) × sort at)
  known_place sort known there = known_as
      (λ found. (record { thread = found.0; place = found.2.0 }, found.2.2))
      (λ some. let in_range = there some.0 some.1 in (some.0.thread, in_range.1, (some.0.place, in_range.0, some.1)))
      (known_below (InThread sort) (λ thread. known_below (λ i. sort (record { thread = thread; place = i })) (λ i. known (record { thread = thread; place = i })) (length (events_of traces thread))) (length traces.events))

  -- there is a source of the sort or not
  pub known_source : (sort : Option Place → Type 0) → ((source : Option Place) → Known (sort source)) → ((at : Place) → sort (Some at) → IsInside at) → Known ((source : Option Place) × sort source)
  known_source sort known there = elim (known None) [
    | inl is ↦ inl (None, is)
    | inr start ↦ elim (known_place (λ at. sort (Some at)) (λ at. known (Some at)) there) [
      | inl found ↦ inl (Some found.0, found.1)
      | inr none ↦ inr (λ some. no_source sort start none some.0 some.1)
    ]
  ]

  -- two sources are of the sort
  pub record Twice (sort : Option Place → Type 0) : Type 0 where
    pub one : Option Place
    pub other : Option Place
    pub differ : one ≢ other
    pub one_is : sort one
    pub other_is : sort other

  -- another source is of the sort
  abbrev Other : (Option Place → Type 0) → Option Place → Option Place → Type 0
  Other sort one other = (one ≢ other) × sort other

  -- there is another of the sort
  abbrev Pair : (Option Place → Type 0) → Option Place → Type 0
  Pair sort one = (other : Option Place) × Other sort one other

  -- that is so or not
  pub known_twice : (sort : Option Place → Type 0) → ((source : Option Place) → Known (sort source)) → ((at : Place) → sort (Some at) → IsInside at) → Known (Twice sort)
  known_twice sort known there = known_as
      (λ found. record { one = found.0; other = found.1.1.0; differ = found.1.1.1.0; one_is = found.1.0; other_is = found.1.1.1.1 })
      (λ twice. (twice.one, (twice.one_is, (twice.other, (twice.differ, twice.other_is)))))
      (known_source (λ one. sort one × Pair sort one) (λ one. known_both (known one) (known_source (Other sort one) (λ other. known_both (known_not (known_same one other)) (known other)) (λ at both. there at both.1))) (λ at both. there at both.0))

  -- a source writes this number of the cell
  abbrev pub Writes : ℕ → ℕ → Option Place → Type 0
  Writes cell number source = (value : ℕ) × IsWriteAt traces source cell number value

  -- that is so or not
  pub known_writes : (cell number : ℕ) (source : Option Place) → Known (Writes cell number source)
  known_writes cell number None = known_as (λ both. (both.1.0, (both.0, both.1.1))) (λ some. (some.1.0, (some.0, some.1.1))) (known_both (cases_eq number 0) (known_some (slice_get traces.starts cell)))
  known_writes cell number (Some at) = known_numbered (option_and_then write_of (event_at traces at)) cell number

  -- a source writes this number and value of the cell or not
  known_write : (cell number value : ℕ) (source : Option Place) → Known (IsWriteAt traces source cell number value)
  known_write cell number value None = known_both (cases_eq number 0) (known_value (slice_get traces.starts cell) value)
  known_write cell number value (Some at) = known_write_of (option_and_then write_of (event_at traces at)) cell number value

  -- a source enters the monitor by this turn or not
  pub known_entry : (monitor turn : ℕ) (source : Option Place) → Known (IsEntryAt traces source monitor turn)
  known_entry monitor turn None = known_both (cases_eq turn 0) (known_less monitor traces.monitors)
  known_entry monitor turn (Some at) = known_turn_of (option_and_then entered_by (event_at traces at)) monitor turn

  -- a source exits from the monitor by this turn or not
  known_exit : (monitor turn : ℕ) (source : Option Place) → Known (IsExitAt traces source monitor turn)
  known_exit monitor turn None = known_both (cases_eq turn 0) (known_less monitor traces.monitors)
  known_exit monitor turn (Some at) = known_turn_of (option_and_then left_by (event_at traces at)) monitor turn

  -- this number of the cell stored some value
  abbrev pub Numbers : ℕ → ℕ → Type 0
  Numbers cell number = (value : ℕ) × Stored traces cell number value

  -- a write is of an event
  pub write_inside : (cell number : ℕ) (at : Place) → Writes cell number (Some at) → IsInside at
  write_inside cell number at is = inside traces at write_of (record { cell = cell; number = number; value = is.0 }) is.1

  -- and an entry is
  pub entry_inside : (monitor turn : ℕ) (at : Place) → IsEntryAt traces (Some at) monitor turn → IsInside at
  entry_inside monitor turn at is = inside traces at entered_by (record { monitor = monitor; turn = turn }) is

  -- this number of the cell stored the value or not
  pub known_stored : (cell number value : ℕ) → Known (Stored traces cell number value)
  known_stored cell number value = known_source (λ source. IsWriteAt traces source cell number value) (known_write cell number value) (λ at is. write_inside cell number at (value, is))

  -- this number of the cell stored some value or not
  pub known_numbers : (cell number : ℕ) → Known (Numbers cell number)
  known_numbers cell number = known_as (λ some. (some.1.0, (some.0, some.1.1))) (λ some. (some.1.0, (some.0, some.1.1))) (known_source (Writes cell number) (known_writes cell number) (write_inside cell number))

  -- there is an entry into the monitor by this turn or not
  pub known_entered : (monitor turn : ℕ) → Known ((source : Option Place) × IsEntryAt traces source monitor turn)
  known_entered monitor turn = known_source (λ source. IsEntryAt traces source monitor turn) (known_entry monitor turn) (entry_inside monitor turn)

  -- there is an exit from the monitor by this turn or not
  pub known_left : (monitor turn : ℕ) → Known ((source : Option Place) × IsExitAt traces source monitor turn)
  known_left monitor turn = known_source (λ source. IsExitAt traces source monitor turn) (known_exit monitor turn) (λ at is. inside traces at left_by (record { monitor = monitor; turn = turn }) is)

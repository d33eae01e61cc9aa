-- A bound above all numbers of the events and of their places.
use Rattle.std.proofs.Common.{◌≡◌, ℕ, zero, suc, ◌+◌, ◌<◌, ◌≤◌, Option, Some, None, length, ap, inl, inr, arith}
use Rattle.std.specs.Option.{option_and_then}
use Rattle.std.proofs.lemmas.Bool.{cases_lt}
use Rattle.std.proofs.lemmas.Option.{slice_get_within}
use Rattle.interleavings.specs.declared.traces.Place.{Place}
use Rattle.interleavings.specs.Events.{WriteOf, TurnOf, write_of, entered_by}
use Rattle.interleavings.specs.TraceLists.{TraceLists, events_of}
use Rattle.linkage.specs.Sources.{IsEntryAt, IsWriteAt, event_at}
use Rattle.linkage.proofs.Frontier.{inside}
use Rattle.linkage.proofs.KnownSources.{IsInside}

-- the number is at least each of the first values
record IsAbove (f : ℕ → ℕ) (n most : ℕ) : Type 0 where
  each : (i : ℕ) → i < n → f i ≤ most

-- there is one
above_all : (f : ℕ → ℕ) (n : ℕ) → (most : ℕ) × IsAbove f n most
above_all f zero = (0, record { each = λ i small. absurd (omega arith) })
above_all f (suc n) =
    let rest = above_all f n in (
      rest.0 + f n,
      record {
        each = λ i small. elim (cases_lt i n) [
          | inl before ↦ let most = rest.1.each i before in omega arith
          | inr last ↦ let same : f i ≡ f n = ap f (omega arith) in omega arith
        ];
      },
    )

-- how great the numbers of a write are, if there is one
abbrev write_size : Option WriteOf → ℕ
write_size None = 0
write_size (Some write) = write.cell + write.number

-- how great the numbers of a turn are, if there is one
abbrev turn_size : Option TurnOf → ℕ
turn_size None = 0
turn_size (Some turn) = turn.monitor + turn.turn

-- the bound is above the places of the events, above the cells and numbers of the writes, and above the monitors and turns of
-- the entries
pub record IsBound (traces : TraceLists) (most : ℕ) : Type 0 where
  pub places : (at : Place) → IsInside traces at → (at.thread < most) × (at.place < most)
  pub writes : (source : Option Place) (cell number value : ℕ) → IsWriteAt traces source cell number value → (cell < most) × (number < most)
  pub entries : (source : Option Place) (monitor turn : ℕ) → IsEntryAt traces source monitor turn → (monitor < most) × (turn < most)

module _ (traces : TraceLists) where
  -- the number is at least that of each place
  record IsAbovePlaces (f : Place → ℕ) (most : ℕ) : Type 0 where
    at_each : (at : Place) → IsInside traces at → f at ≤ most

  -- there is one
  above_places : (f : Place → ℕ) → (most : ℕ) × IsAbovePlaces f most
  above_places f =
      let rows = above_all row (length traces.events) in (
        rows.0,
        record {
          at_each = λ at there.
              let in_row = (above_all (in_thread at.thread) (length (events_of traces at.thread))).1.each at.place there.0 in
              let of_row = rows.1.each at.thread there.1 in
              omega arith;
        },
      )
    where
      in_thread : ℕ → ℕ → ℕ
      in_thread thread place = f (record { thread = thread; place = place })

      row : ℕ → ℕ
      row thread = (above_all (in_thread thread) (length (events_of traces thread))).0

  -- the bound
  pub bounded : (most : ℕ) × IsBound traces most
  bounded = (most, record { places = of_place; writes = of_write; entries = of_entry })
    where
      places : (n : ℕ) × IsAbovePlaces (λ at. at.thread + at.place) n
      places = above_places (λ at. at.thread + at.place)

      written : (n : ℕ) × IsAbovePlaces (λ at. write_size (option_and_then write_of (event_at traces at))) n
      written = above_places (λ at. write_size (option_and_then write_of (event_at traces at)))

      entered : (n : ℕ) × IsAbovePlaces (λ at. turn_size (option_and_then entered_by (event_at traces at))) n
      entered = above_places (λ at. turn_size (option_and_then entered_by (event_at traces at)))

      most : ℕ
      most = places.0 + written.0 + entered.0 + length traces.starts + traces.monitors + 1

      of_place : (at : Place) → IsInside traces at → (at.thread < most) × (at.place < most)
      of_place at there = let small = places.1.at_each at there in (omega arith, omega arith)

      of_write : (source : Option Place) (cell number value : ℕ) → IsWriteAt traces source cell number value → (cell < most) × (number < most)
      of_write None cell number value is = let small = slice_get_within traces.starts cell value is.1 in let first = is.0 in (omega arith, omega arith)
      of_write (Some at) cell number value is =
          let small = written.1.at_each at (inside traces at write_of (record { cell = cell; number = number; value = value }) is) in
          let weight : write_size (option_and_then write_of (event_at traces at)) ≡ cell + number = ap write_size is in
          (omega arith, omega arith)

      of_entry : (source : Option Place) (monitor turn : ℕ) → IsEntryAt traces source monitor turn → (monitor < most) × (turn < most)
      of_entry None monitor turn is = let first = is.0 in let small = is.1 in (omega arith, omega arith)
      of_entry (Some at) monitor turn is =
          let small = entered.1.at_each at (inside traces at entered_by (record { monitor = monitor; turn = turn }) is) in
          let weight : turn_size (option_and_then entered_by (event_at traces at)) ≡ monitor + turn = ap turn_size is in
          (omega arith, omega arith)

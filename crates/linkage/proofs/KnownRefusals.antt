-- Whether something is refused is known.
use Rattle.std.proofs.Common.{◌≡◌, ◌∙◌, ℕ, zero, suc, ◌+◌, ◌<◌, ◌≤◌, ◌⊎◌, Option, Some, None, refl, sym, subst, inl, inr, arith}
use Rattle.std.specs.Option.{option_and_then}
use Rattle.std.proofs.lemmas.Bool.{cases_lt}
use Rattle.interleavings.specs.declared.event.Event.{Event}
use Rattle.interleavings.specs.declared.event.Event.TheVariants as events
use Rattle.interleavings.specs.declared.traces.Place.{Place}
use Rattle.interleavings.specs.Events.{ReadOf, WriteOf, read_of, write_of}
use Rattle.interleavings.specs.TraceLists.{TraceLists}
use Rattle.linkage.specs.declared.link_error.LinkError.{LinkError}
use Rattle.linkage.specs.declared.link_error.LinkError.TheVariants.{TwiceWritten, WriteGap, TwiceTurned, TurnGap, BoundTooLarge, NoEqualWrite, UpdateMismatch, NoMemory}
use Rattle.linkage.specs.Refusals.{IsBoundTooLarge, IsMismatch, IsRefused, IsTurnGap, IsTwiceTurned, IsTwiceWritten, IsUnequal, IsWriteGap}
use Rattle.linkage.specs.Sources.{IsEntryAt, IsReadAt, Stored, event_at}
use Rattle.linkage.proofs.Bounds.{IsBound}
use Rattle.linkage.proofs.Deciding.{Known, known_as, known_below, known_both, known_less, known_most, known_not}
use Rattle.linkage.proofs.KnownSources.{Numbers, Writes, entry_inside, known_entered, known_entry, known_left, known_numbers, known_stored, known_twice, known_writes, write_inside}
use Rattle.linkage.proofs.Parts.{same_read, same_write}
use Rattle.linkage.proofs.Unique.{kinds}

-- the parts of an update
record IsUpdate (event : Option Event) (cell old number new : ℕ) : Type 0 where
  met : option_and_then read_of event ≡ Some (record { cell = cell; value = old })
  made : option_and_then write_of event ≡ Some (record { cell = cell; number = number; value = new })

-- an event is an update, or it doesn't both read and write
updates : (event : Option Event) → ((cell : ℕ) × (old : ℕ) × (number : ℕ) × (new : ℕ) × IsUpdate event cell old number new) ⊎ ((read : ReadOf) (write : WriteOf) → option_and_then read_of event ≡ Some read → option_and_then write_of event ≡ Some write → ⊥)
updates None = inr (λ read write met made. absurd cc)
updates (Some (events.Read cell value bound)) = inr (λ read write met made. absurd cc)
updates (Some (events.Write cell value number)) = inr (λ read write met made. absurd cc)
updates (Some (events.Update cell old new number)) = inl (cell, old, number, new, record { met = refl; made = refl })
updates (Some (events.Enter monitor turn)) = inr (λ read write met made. absurd cc)
updates (Some (events.Exit monitor turn)) = inr (λ read write met made. absurd cc)

module _ (traces : TraceLists) where
  -- the event at the place is a read of which this is the case
  record IsReadWith (rest : ℕ → ℕ → ℕ → Type 0) (at : Place) : Type 0 where
    cell : ℕ
    value : ℕ
    bound : ℕ
    reads : IsReadAt traces at cell value bound
    holds : rest cell value bound

  -- what is the case of one reading of a place is of another
  pub same_reading : (rest : ℕ → ℕ → ℕ → Type 0) (at : Place) (c v b d w k : ℕ) → IsReadAt traces at c v b → IsReadAt traces at d w k → rest c v b → rest d w k
  same_reading rest at c v b d w k one other holds =
      let read = same_read (record { cell = c; value = v }) (record { cell = d; value = w }) (sym one.met ∙ other.met) in
      let bounds : Some b ≡ Some k = sym one.within ∙ other.within in
      let bound : b ≡ k = cc in
      let P : ℕ × ℕ × ℕ → Type 0 = λ t. rest t.0 t.1 t.2 in
      let three : (c, v, b) ≡ (d, w, k) = cc (read.0, read.1, bound) in
      subst P three holds

  -- that is so or not
  known_read : (rest : ℕ → ℕ → ℕ → Type 0) → ((cell value bound : ℕ) → Known (rest cell value bound)) → (at : Place) → Known (IsReadWith rest at)
  known_read rest known at = elim (kinds (event_at traces at)) [
    | inl none ↦ inr (λ read. absurd (let is : Some read.bound ≡ None = sym read.reads.within ∙ none in cc))
    | inr found ↦
        let here : IsReadAt traces at found.0 found.1 found.2 = record { met = found.3; within = found.4 } in
        known_as (λ holds. record { cell = found.0; value = found.1; bound = found.2; reads = here; holds = holds })
        (λ read. same_reading rest at read.cell read.value read.bound found.0 found.1 found.2 read.reads here read.holds) (known found.0 found.1 found.2)
  ]

  -- no write within the bound stored the value
  abbrev NoneEqual : ℕ → ℕ → ℕ → Type 0
  NoneEqual cell value bound = (number : ℕ) → number ≤ bound → Stored traces cell number value → ⊥

  -- no write within the bound of a read stored its value, or one did
  known_unequal : (at : Place) → Known (IsUnequal traces at)
  known_unequal at = known_as
      (λ read. record { cell = read.cell; value = read.value; bound = read.bound; reads = read.reads; none = read.holds })
      (λ unequal. record { cell = unequal.cell; value = unequal.value; bound = unequal.bound; reads = unequal.reads; holds = unequal.none })
      (known_read NoneEqual known at)
    where
      known : (cell value bound : ℕ) → Known (NoneEqual cell value bound)
      known cell value bound = known_as
          (λ none number small is. none (number, omega arith, is))
          (λ none some. let small = some.1 in none some.0 (omega arith) some.2)
          (known_not (known_below (λ number. Stored traces cell number value) (λ number. known_stored traces cell number value) (bound + 1)))

  -- the write before the update didn't store the value
  abbrev NoneBefore : ℕ → ℕ → ℕ → Type 0
  NoneBefore cell old number = (below : ℕ) → below + 1 ≡ number → Stored traces cell below old → ⊥

  -- that is so or not
  known_before : (cell old number : ℕ) → Known (NoneBefore cell old number)
  known_before cell old zero = inl (λ below next is. absurd (omega arith))
  known_before cell old (suc number) = known_as
      (λ never below next is. never (let here : below ≡ number = omega arith in let P : ℕ → Type 0 = λ n. Stored traces cell n old in subst P here is))
      (λ none is. none number (omega arith) is)
      (known_not (known_stored traces cell number old))

  -- the write before an update didn't store its old value, or it did
  known_mismatch : (at : Place) → Known (IsMismatch traces at)
  known_mismatch at = elim (updates (event_at traces at)) [
    | inr none ↦ inr (λ mismatch. none _ _ mismatch.updates.met mismatch.updates.made)
    | inl found ↦ known_as
        (λ holds. record { cell = found.0; old = found.1; number = found.2; updates = record { met = found.4.met; new = found.3; made = found.4.made }; none = holds })
        (λ mismatch.
        let read = same_read (record { cell = mismatch.cell; value = mismatch.old }) (record { cell = found.0; value = found.1 }) (sym mismatch.updates.met ∙ found.4.met) in
        let write = same_write (record { cell = mismatch.cell; number = mismatch.number; value = mismatch.updates.new }) (record { cell = found.0; number = found.2; value = found.3 }) (sym mismatch.updates.made ∙ found.4.made) in
        let P : ℕ × ℕ × ℕ → Type 0 = λ t. NoneBefore t.0 t.1 t.2 in
        let three : (mismatch.cell, mismatch.old, mismatch.number) ≡ (found.0, found.1, found.2) = cc (read.0, read.1, write.1) in
        subst P three mismatch.none)
        (known_before found.0 found.1 found.2)
  ]

  -- two writes of the cell have this number or not
  known_twice_written : (cell number : ℕ) → Known (IsTwiceWritten traces cell number)
  known_twice_written cell number = known_as
      (λ twice. record { one = twice.one; other = twice.other; differ = twice.differ; one_value = twice.one_is.0; one_writes = twice.one_is.1; other_value = twice.other_is.0; other_writes = twice.other_is.1 })
      (λ twice. record { one = twice.one; other = twice.other; differ = twice.differ; one_is = (twice.one_value, twice.one_writes); other_is = (twice.other_value, twice.other_writes) })
      (known_twice traces (Writes traces cell number) (known_writes traces cell number) (write_inside traces cell number))

  -- two entries into the monitor have this turn or not
  known_twice_turned : (monitor turn : ℕ) → Known (IsTwiceTurned traces monitor turn)
  known_twice_turned monitor turn = known_as
      (λ twice. record { one = twice.one; other = twice.other; differ = twice.differ; one_enters = twice.one_is; other_enters = twice.other_is })
      (λ twice. record { one = twice.one; other = twice.other; differ = twice.differ; one_is = twice.one_enters; other_is = twice.other_enters })
      (known_twice traces (λ source. IsEntryAt traces source monitor turn) (known_entry traces monitor turn) (entry_inside traces monitor turn))

  module _ (most : ℕ) (bound_is : IsBound traces most) where
    -- a greater number of the cell stored a value
    abbrev Greater : ℕ → ℕ → ℕ → Type 0
    Greater cell number greater = (number < greater) × Numbers traces cell greater

    -- a number of the cell is left out or not
    known_write_gap : (cell number : ℕ) → Known (IsWriteGap traces cell number)
    known_write_gap cell number = known_as
        (λ both. record { missing = λ value is. both.0 (value, is); greater = both.1.0; above = both.1.2.0; greater_value = both.1.2.1.0; there = both.1.2.1.1 })
        (λ gap. (λ some. gap.missing some.0 some.1, (gap.greater, (bound_is.writes gap.there.0 cell gap.greater gap.greater_value gap.there.1).1, (gap.above, (gap.greater_value, gap.there)))))
        (known_both (known_not (known_numbers traces cell number)) (known_below (Greater cell number) (λ greater. known_both (known_less number greater) (known_numbers traces cell greater)) most))

    -- there is an entry into the monitor by this turn
    abbrev Entered : ℕ → ℕ → Type 0
    Entered monitor turn = (source : Option Place) × IsEntryAt traces source monitor turn

    -- an entry has a greater turn
    abbrev Later : ℕ → ℕ → ℕ → Type 0
    Later monitor turn greater = (turn < greater) × Entered monitor greater

    -- an exit for a turn of the monitor is left out or not
    known_turn_gap : (monitor turn : ℕ) → Known (IsTurnGap traces monitor turn)
    known_turn_gap monitor turn = known_as
        (λ both. record { missing = λ source is. both.0 (source, is); greater = both.1.0; above = both.1.2.0; source = both.1.2.1.0; enters = both.1.2.1.1 })
        (λ gap. (λ some. gap.missing some.0 some.1, (gap.greater, (bound_is.entries gap.source monitor gap.greater gap.enters).1, (gap.above, (gap.source, gap.enters)))))
        (known_both (known_not (known_left traces monitor turn)) (known_below (Later monitor turn) (λ greater. known_both (known_less turn greater) (known_entered traces monitor greater)) most))

    -- every number of the cell is below the bound
    abbrev AllBelow : ℕ → ℕ → ℕ → Type 0
    AllBelow cell value bound = (number stored : ℕ) → Stored traces cell number stored → number < bound

    -- a number of the cell isn't
    abbrev Reaches : ℕ → ℕ → ℕ → Type 0
    Reaches cell bound number = (bound ≤ number) × Numbers traces cell number

    -- the bound of a read is above every number of its cell or not
    known_bound_too_large : (at : Place) → Known (IsBoundTooLarge traces at)
    known_bound_too_large at = known_as
        (λ read. record { cell = read.cell; value = read.value; bound = read.bound; reads = read.reads; above = read.holds })
        (λ large. record { cell = large.cell; value = large.value; bound = large.bound; reads = large.reads; holds = large.above })
        (known_read AllBelow known at)
      where
        known : (cell value bound : ℕ) → Known (AllBelow cell value bound)
        known cell value bound = known_as
            (λ none number stored is. elim (cases_lt number bound) [
              | inl less ↦ less
              | inr reaches ↦ absurd (none (number, (bound_is.writes is.0 cell number stored is.1).1, (reaches, (stored, is))))
            ])
            (λ all some. let less = all some.0 some.2.1.0 some.2.1.1 in let reaches = some.2.0 in omega arith)
            (known_not (known_below (Reaches cell bound) (λ number. known_both (known_most bound number) (known_numbers traces cell number)) most))

    -- what a refusal says is so or not
    pub known_refused : (refusal : LinkError) → Known (IsRefused traces refusal)
    known_refused NoMemory = inr (λ never. never)
    known_refused (TwiceWritten cell number) = known_twice_written cell number
    known_refused (WriteGap cell number) = known_write_gap cell number
    known_refused (TwiceTurned monitor turn) = known_twice_turned monitor turn
    known_refused (TurnGap monitor turn) = known_turn_gap monitor turn
    known_refused (BoundTooLarge at) = known_bound_too_large at
    known_refused (NoEqualWrite at) = known_unequal at
    known_refused (UpdateMismatch at) = known_mismatch at

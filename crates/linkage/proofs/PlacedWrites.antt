-- The writes of all events at their places, event by event.
use Rattle.std.proofs.Common.{◌≡◌, ◌∙◌, ℕ, ◌+◌, ◌*◌, ◌<◌, ◌≤◌, true, false, inl, inr, length, refl, sym, ap, subst, arith}
use Rattle.std.specs.Prelude.{Option, Some, None, slice_get, slice_index}
use Rattle.std.specs.List.{slice_index_or}
use Rattle.std.proofs.Math.Nat.{eq-or-lt_of_le}
use Rattle.std.proofs.lemmas.Bool.{cases_Bool}
use Rattle.std.proofs.lemmas.Option.{slice_get-get_or}
use Rattle.stride_isa.specs.Limits.{cell_limit, fuel_limit, thread_limit}
use Rattle.interleavings.specs.declared.event.Event.{Event}
use Rattle.interleavings.specs.declared.traces.Place.{Place}
use Rattle.interleavings.specs.Events.{WriteOf, write_of}
use Rattle.interleavings.specs.TraceLists.{TraceLists, events_of}
use Rattle.linkage.specs.declared.link_error.LinkError.{LinkError}
use Rattle.linkage.specs.declared.link_error.LinkError.TheVariants.{TwiceWritten, WriteGap}
use Rattle.linkage.specs.declared.numbered.Numbered.{Numbered}
use Rattle.linkage.specs.declared.placing.Placing.{Placing}
use Rattle.linkage.specs.declared.spans.Spans.{Spans}
use Rattle.linkage.specs.AllOf.{StartsGiven, WriteGiven}
use Rattle.linkage.specs.Checking.{IsRow, NoneBelow}
use Rattle.linkage.specs.GatherShows.{place_at}
use Rattle.linkage.specs.Placing.{AreWriteSpans, IsFull, IsPlaced, IsPut, IsTaken, IsUnfit, IsWritePlaced}
use Rattle.linkage.specs.Refusals.{IsRefused, IsTwiceWritten, IsWriteGap, rank_of}
use Rattle.linkage.specs.Rounds.{IsReached, Reached, first_events}
use Rattle.linkage.specs.Sources.{event_at}
use Rattle.linkage.specs.Spans.{HasPlace, IsGivenOne, place_of}
use Rattle.linkage.proofs.AllOfLists.{start_more}
use Rattle.linkage.proofs.Frontier.{given_at, gives_some, same_numbered}
use Rattle.linkage.proofs.Growing.{twice_kept}
use Rattle.linkage.proofs.Onward.{part_reached, same_reached, more_reached, next_reached, round_reached, all_reached, start_reached}
use Rattle.linkage.proofs.Placed.{placed_same, placed_more, true_not_false, twice_now}
use Rattle.linkage.proofs.RefusalOrder.{none_below_first, none_below_next}
use Rattle.linkage.proofs.SpanPlaces.{number_at, place_inside}

module _ (traces : TraceLists) (spans : Spans) (are : AreWriteSpans traces spans) where
  -- each write has a place
  pub write_place : (source : Option Place) (item : Numbered ℕ) → WriteGiven traces source item → HasPlace spans item.owner item.number
  write_place source item gives = (omega (arith, are.tops.count, are.tops.owned source item gives), are.tops.above source item gives)

  -- the place of a cell's number 0
  pub start_place : (cell : ℕ) → cell < length traces.starts → HasPlace spans cell 0
  start_place cell own = (omega (arith, are.tops.count), omega arith)

  -- one starting value more
  pub placed_start : (cell value : ℕ) (old new : Placing) → cell < length traces.starts → value ≡ slice_index traces.starts cell → IsPlaced (StartsGiven (WriteGiven traces) cell) spans old → IsPut (place_of spans cell 0) value old new → IsPlaced (StartsGiven (WriteGiven traces) (cell + 1)) spans new
  placed_start cell value old new own is placed put =
      placed_more (StartsGiven (WriteGiven traces) cell) (StartsGiven (WriteGiven traces) (cell + 1)) spans are.shape old new None x placed
      (start_more (WriteGiven traces) cell x refl (refl, start) (λ item gives same. same_numbered item x same gives.0 (the_value item gives.1 same)))
      (start_place cell own) (λ one. not_yet one.source _ refl one.gives) within put
    where
      x : Numbered ℕ
      x = record { owner = cell; number = 0; value = value }

      start : slice_get traces.starts cell ≡ Some value
      start = slice_get-get_or traces.starts cell 0 own ∙ ap Some (sym is)

      the_value : (item : Numbered ℕ) → slice_get traces.starts item.owner ≡ Some item.value → item.owner ≡ cell → item.value ≡ value
      the_value item there same = let both : Some item.value ≡ Some value = sym there ∙ (ap (slice_get traces.starts) same ∙ start) in cc

      not_yet : (source : Option Place) (item : Numbered ℕ) → item.owner ≡ cell → StartsGiven (WriteGiven traces) cell source item → ⊥
      not_yet None item same gives = omega (arith, gives.1, same)
      not_yet (Some place) item same gives = gives

      within : (source : Option Place) (item : Numbered ℕ) → StartsGiven (WriteGiven traces) cell source item → HasPlace spans item.owner item.number
      within None item gives = write_place None item gives.0
      within (Some place) item gives = absurd gives

  -- before the first event
  pub placed_starts : (cells to : ℕ) (placing : Placing) → cells ≡ length traces.starts → IsPlaced (StartsGiven (WriteGiven traces) cells) spans placing → IsPlaced (Reached 0 to (place_at 0 0) (WriteGiven traces)) spans placing
  placed_starts cells to placing is placed = placed_same _ _ spans placing placed (start_reached traces cells to is)

  module _ (t i : ℕ) (event : Event) (there : event_at traces (place_at t i) ≡ Some event) where
    -- the event's write has a place
    pub event_place : IsWritePlaced spans (write_of event)
    event_place = known (write_of event) refl
      where
        known : (write : Option WriteOf) → write_of event ≡ write → IsWritePlaced spans write
        known None is = tt
        known (Some write) is = write_place (Some (place_at t i)) (record { owner = write.cell; number = write.number; value = write.value }) (gives_some traces (place_at t i) event there write_of _ is)

    module _ (from to : ℕ) (on : from ≤ i) (old new : Placing) (placed : IsPlaced (Reached from to (place_at t i) (WriteGiven traces)) spans old) where
      within : (source : Option Place) (item : Numbered ℕ) → Reached from to (place_at t i) (WriteGiven traces) source item → HasPlace spans item.owner item.number
      within source item gives = write_place source item (given_at (WriteGiven traces) (IsReached from to (place_at t i)) source item gives)

      -- past an event whose write was put at its place
      pub placed_step : IsTaken spans (write_of event) old new true → IsPlaced (Reached from to (place_at t (i + 1)) (WriteGiven traces)) spans new
      placed_step taken = known (write_of event) refl taken
        where
          known : (write : Option WriteOf) → write_of event ≡ write → IsTaken spans write old new true → IsPlaced (Reached from to (place_at t (i + 1)) (WriteGiven traces)) spans new
          known None is taken = rw taken.0 (placed_same _ _ spans old placed (same_reached traces from to t i on event there is))
          known (Some write) is taken =
              let x : Numbered ℕ = record { owner = write.cell; number = write.number; value = write.value } in
              let has = write_place (Some (place_at t i)) x (gives_some traces (place_at t i) event there write_of _ is) in
              placed_more _ _ spans are.shape old new _ x placed (more_reached traces from to t i on event there x is) has (λ one. true_not_false _ (placed.marks.marked write.cell write.number has one) taken.0) within taken.1

      -- an event whose write has the place of another
      pub unfit_step : IsTaken spans (write_of event) old new false → IsUnfit traces
      unfit_step taken = known (write_of event) refl taken
        where
          known : (write : Option WriteOf) → write_of event ≡ write → IsTaken spans write old new false → IsUnfit traces
          known None is taken = absurd (let no : false ≡ true = taken.1 in cc)
          known (Some write) is taken = λ none.
              let x : Numbered ℕ = record { owner = write.cell; number = write.number; value = write.value } in
              let has = write_place (Some (place_at t i)) x (gives_some traces (place_at t i) event there write_of _ is) in
              let now = twice_now _ _ spans old.filled.items placed.marks _ x (more_reached traces from to t i on event there x is) (placed.marks.meant write.cell write.number has taken) in
              let g = twice_kept _ _ (given_at (WriteGiven traces) (IsReached from to (place_at t (i + 1)))) write.cell write.number now in
              let refused : IsTwiceWritten traces write.cell write.number = record { one = g.one; other = g.other; differ = g.differ; one_value = g.one_value; one_writes = g.one_gives; other_value = g.other_value; other_writes = g.other_gives } in
              let above : 3 ≤ 1 = none (TwiceWritten write.cell write.number) refused in
              omega arith

  module _ (from to : ℕ) (placing : Placing) where
    -- where a thread's part of a round begins
    pub placed_part : (t start : ℕ) → start ≤ from → IsPlaced (Reached from to (place_at t 0) (WriteGiven traces)) spans placing → IsPlaced (Reached from to (place_at t start) (WriteGiven traces)) spans placing
    placed_part t start low placed = placed_same _ _ spans placing placed (part_reached traces from to t start low)

    -- past a thread's part of a round
    pub placed_next : (t stop : ℕ) → stop ≡ first_events traces to t → IsPlaced (Reached from to (place_at t stop) (WriteGiven traces)) spans placing → IsPlaced (Reached from to (place_at (t + 1) 0) (WriteGiven traces)) spans placing
    placed_next t stop is placed = placed_same _ _ spans placing placed (next_reached traces from to t stop is)

    -- past a round
    pub placed_round : (threads later : ℕ) → threads ≡ length traces.events → from ≤ to → IsPlaced (Reached from to (place_at threads 0) (WriteGiven traces)) spans placing → IsPlaced (Reached to later (place_at 0 0) (WriteGiven traces)) spans placing
    placed_round threads later all on placed = placed_same _ _ spans placing placed (round_reached traces from to threads later all on)

    -- past the last round
    pub placed_all : ((thread : ℕ) → length (events_of traces thread) ≤ from) → IsPlaced (Reached from to (place_at 0 0) (WriteGiven traces)) spans placing → IsPlaced (WriteGiven traces) spans placing
    placed_all most placed = placed_same _ _ spans placing placed (all_reached traces from to most)

  module _ (placing : Placing) (placed : IsPlaced (WriteGiven traces) spans placing) where
    -- where nothing is wrong with the numbers, every place is full
    pub fit_full : NoneBelow traces 3 → IsFull placing.filled.items
    fit_full none place inside =
        let at = number_at spans place are.shape (omega (arith, placed.marks.count)) in
        elim (cases_Bool (slice_index_or placing.filled.items (place_of spans at.0 at.1) false)) [
          | inl full ↦ ap (λ i. slice_index_or placing.filled.items i false) at.3 ∙ full
          | inr empty ↦ absurd (left_out at.0 at.1 at.2 (λ one. true_not_false _ (placed.marks.marked at.0 at.1 at.2 one) empty))
        ]
      where
        left_out : (cell number : ℕ) → HasPlace spans cell number → (IsGivenOne (WriteGiven traces) cell number → ⊥) → ⊥
        left_out cell number has missing =
            let top = are.tops.reached cell (omega (arith, has.0, are.tops.count)) in
            elim (eq-or-lt_of_le {n = number} {m = slice_index spans.greatest.items cell} has.1) [
              | inl same ↦ missing (subst (λ (n : ℕ). IsGivenOne (WriteGiven traces) cell n) (sym same) top)
              | inr less ↦ (
                  let gap : IsWriteGap traces cell number = record { missing = λ value stored. missing (record { source = stored.0; value = value; gives = stored.1 }); greater = slice_index spans.greatest.items cell; above = less; greater_value = top.value; there = (top.source, top.gives) } in
                  let above : 3 ≤ 2 = none (WriteGap cell number) gap in
                  omega arith)
            ]

    module _ (full : IsFull placing.filled.items) where
      -- each number that has a place is given
      there : (cell number : ℕ) → HasPlace spans cell number → IsGivenOne (WriteGiven traces) cell number
      there cell number has = placed.marks.meant cell number has (full (place_of spans cell number) (omega (arith, place_inside spans are.shape cell number has, placed.marks.count)))

      -- a write's value stands at its place
      held : (source : Option Place) (item : Numbered ℕ) → WriteGiven traces source item → slice_get placing.values.items (place_of spans item.owner item.number) ≡ Some item.value
      held source item gives =
          let inside = place_inside spans are.shape item.owner item.number (write_place source item gives) in
          slice_get-get_or placing.values.items (place_of spans item.owner item.number) 0 (omega (arith, inside, placed.count)) ∙ ap Some (placed.values source item gives)

      -- the full places are the row
      pub placed_row : spans.places ≤ fuel_limit * thread_limit + cell_limit → IsRow traces (record { values = placing.values; spans = spans })
      placed_row few = record {
        shape = record { spans = are.shape; count = placed.count };
        greatest = are.tops.count;
        there = λ cell number own most.
            let one = there cell number (omega (arith, are.tops.count), most) in
            (one.value, (most, held one.source _ one.gives), (one.source, one.gives));
        stored = λ cell number value stored.
            let x : Numbered ℕ = record { owner = cell; number = number; value = value } in
            (are.tops.owned stored.0 x stored.1, (are.tops.above stored.0 x stored.1, held stored.0 x stored.1));
        few = omega (arith, placed.count);
      }

      -- and nothing is wrong with the numbers
      pub placed_fit : NoneBelow traces 3
      placed_fit = none_below_next traces 2 (none_below_next traces 1 (none_below_first traces) no_twice) no_gap
        where
          no_twice : (other : LinkError) → IsRefused traces other → (rank_of other).0 ≡ 1 → ⊥
          no_twice (TwiceWritten cell number) t same = placed.single cell number (record { one = t.one; other = t.other; differ = t.differ; one_value = t.one_value; one_gives = t.one_writes; other_value = t.other_value; other_gives = t.other_writes })
          no_twice other refused same = absurd (omega arith)

          no_gap : (other : LinkError) → IsRefused traces other → (rank_of other).0 ≡ 2 → ⊥
          no_gap (WriteGap cell number) gap same =
              let has = write_place gap.there.0 (record { owner = cell; number = gap.greater; value = gap.greater_value }) gap.there.1 in
              let one = there cell number (has.0, omega (arith, has.1, gap.above)) in
              gap.missing one.value (one.source, one.gives)
          no_gap other refused same = absurd (omega arith)

-- The run of a schedule that is inferred from a recording is what was recorded.
use Rattle.std.proofs.Common.{◌≡◌, ◌⊎◌, ℕ, ◌+◌, ◌<◌, ◌≤◌, List, Option, Some, None, Result, Ok, length, map, get_or, refl, sym, ◌∙◌, ap, subst, inl, inr, arith}
use Rattle.std.specs.List.{range_with_len}
use Rattle.std.specs.Option.{option_map}
use Rattle.std.proofs.lemmas.List.{same_lists}
use Rattle.std.proofs.lemmas.List.FromFn.{get_or-map-range_with_len, length-map-range_with_len}
use Rattle.std.proofs.lemmas.Option.{none-some, same_Some, slice_get-get_or}
use Rattle.std.proofs.lemmas.Simd.{map-map}
use Rattle.stride_isa.specs.Laws.{EachCellStarts}
use Rattle.stride_isa.specs.Listing.{cell_count, start_of}
use Rattle.stride_isa.specs.Validity.{IsValid}
use Rattle.sc_machine.specs.Laws.{OutputsAreLines, StartsSettle, TurnsAreSteps}
use Rattle.sc_machine.specs.Machine.{Machine}
use Rattle.sc_machine.specs.Schedule.{finished, ready, run_of}
use Rattle.sc_machine.specs.ThreadStep.{Thread, end_of}
use Rattle.interleavings.specs.declared.traces.Place.{Place}
use Rattle.interleavings.specs.AtomicStep.{Value}
use Rattle.interleavings.specs.Events.{WriteOf}
use Rattle.interleavings.specs.Following.{Divergence, Followed}
use Rattle.interleavings.specs.History.{State, after}
use Rattle.interleavings.specs.Recording.{Recording, Setting, IsRecording, state_of}
use Rattle.interleavings.specs.RunEvents.{RunEvent, no_counts, plain, run_events}
use Rattle.interleavings.specs.TraceLists.{TraceLists, events_of}
use Rattle.linkage.specs.Sources.{IsWriteAt, Stored}
use Rattle.event_order.specs.Laws.{ExtensionsAreRuns, FollowedAreInRange, RunsAsFollowed, traces_of}
use Rattle.histories.specs.Chronicle.{Puts, Chronicle}
use Rattle.histories.specs.Laws.{HistoriesHaveChronicles}
use Rattle.history_laws.specs.HistoryEvents.{AreEventsOf}
use Rattle.history_laws.specs.Laws.{HistoriesHaveOrders, RecordingsAreHistories, RecordingsHaveSchedules, SchedulesReplayRecordings}
use Rattle.history_laws.specs.RecordedRuns.{IsScheduleOf, IsReplayOf}
use Rattle.history_laws.proofs.LastWrites.{HasWrite, IsLast, place_write, turns_last, write_place}
use Rattle.history_laws.proofs.Linked.{world_of}
use Rattle.history_laws.proofs.Told.{World, stored, stored_is}

-- what the laws say of histories, of the direct order and of the machine's runs
pub record Laws : Type 0 where
  pub starts : EachCellStarts
  pub runs : ExtensionsAreRuns
  pub range : FollowedAreInRange
  pub chronicles : HistoriesHaveChronicles
  pub orders : HistoriesHaveOrders
  pub lines : OutputsAreLines
  pub events : RecordingsAreHistories
  pub settle : StartsSettle
  pub steps : TurnsAreSteps

-- in a run with the events of a history a cell is left with the value that was put last
module _ (traces : TraceLists) (st : State) (c : Chronicle) (w : World traces st c) (told : ℕ → List RunEvent) (are : (t : ℕ) → told t ≡ map plain (events_of traces t)) (cell value : ℕ) (inside : cell < length traces.starts) (last : IsLast cell 0 (get_or traces.starts cell 0) told value) where
  -- the last write of the run is one of the history
  last_stored : ((last.number ≡ 0) × (value ≡ get_or traces.starts cell 0)) ⊎ ((t : ℕ) × HasWrite (told t) (record { cell = cell; number = last.number; value = value })) → Stored traces cell last.number value
  last_stored (inl (none, start)) = (None, (none, slice_get-get_or traces.starts cell 0 inside ∙ ap Some (sym start)))
  last_stored (inr (t, has)) =
      let found = write_place (events_of traces t) (record { cell = cell; number = last.number; value = value }) (subst (λ (es : List RunEvent). HasWrite es (record { cell = cell; number = last.number; value = value })) (are t) has) in
      (Some (record { thread = t; place = found.0 }), found.1)

  -- and no write of the history has a greater number
  none_greater : (number put : ℕ) (source : Option Place) → IsWriteAt traces source cell number put → number ≤ last.number
  none_greater number put None is = omega (arith, is.0)
  none_greater number put (Some at) is =
      let write : WriteOf = record { cell = cell; number = number; value = put } in
      last.greatest at.thread number put (subst (λ (es : List RunEvent). HasWrite es write) (sym (are at.thread)) (place_write (events_of traces at.thread) at.place write is))

  -- so it is the value that was put last
  last_value : st.words (Value cell) ≡ value
  last_value =
      let count = c.count (Puts cell) in
      let source = last_stored last.stored in
      let known = stored_is traces st c w cell last.number value source.0 source.1 in
      let top = stored traces st c w cell count inside (omega arith) in
      let most = none_greater count (c.mark (Puts cell) count).value top.0 top.1 in
      let same : count ≡ last.number = omega (arith, known.0, most) in
      w.is.value cell ∙ (ap (λ (k : ℕ). (c.mark (Puts cell) k).value) same ∙ known.2)

-- maps that agree below a number give the same list
same_values : (f g : ℕ → ℕ) (n : ℕ) → ((x : ℕ) → x < n → f x ≡ g x) → map f (range_with_len 0 n) ≡ map g (range_with_len 0 n)
same_values f g n each = same_lists (map f (range_with_len 0 n)) (map g (range_with_len 0 n)) (length-map-range_with_len f 0 n ∙ sym (length-map-range_with_len g 0 n)) (λ k d small.
    let below : k < n = subst (λ (count : ℕ). k < count) (length-map-range_with_len f 0 n) small in
    let place : 0 + k ≡ k = omega arith in
    get_or-map-range_with_len f 0 n k k d below place ∙ (each k below ∙ sym (get_or-map-range_with_len g 0 n k k d below place)))

-- the machine whose threads were given ends
unfinished : (found : Option Machine) (m : Machine) → option_map finished found ≡ Some m → (last : Machine) × (found ≡ Some last) × (last.cells ≡ m.cells)
unfinished None m is = absurd (none-some m is)
unfinished (Some last) m is = (last, refl, ap (λ (machine : Machine). machine.cells) (same_Some (finished last) m is))

same_followed : (all other : List Followed) (r : Result (List Followed) Divergence) → r ≡ Ok all → r ≡ Ok other → all ≡ other
same_followed all other r is also = cc

module _ (laws : Laws) (g : Setting) (recording : Recording) (valid : IsValid g.program) (some : 1 ≤ g.fuel) (is : IsRecording g recording) where
  -- the threads run again by their logs
  abbrev all : List Followed
  all = is.followed.followed

  -- their events
  abbrev traces : TraceLists
  traces = traces_of g.program all

  -- are those of the history
  are_events : AreEventsOf is.steps traces
  are_events = laws.events g recording is.steps is.history is.followed (laws.range g.program g.fuel recording.logs all valid some is.followed.follows)

  inferred_schedule : (schedule : List ℕ) × IsScheduleOf g recording schedule
  inferred_schedule =
      let found = laws.orders is.steps traces are_events in
      (found.2.0, record { all = all; follows = is.followed.follows; links = found.0; whole = found.1; least = found.2.1 })

  module _ (schedule : List ℕ) (inferred : IsScheduleOf g recording schedule) where
    -- the run of the schedule
    run : RunsAsFollowed g.program g.fuel all schedule
    run =
        let placed = laws.runs g.program g.fuel recording.logs inferred.all inferred.links inferred.least.places valid some inferred.follows inferred.whole.unrefused inferred.whole.linked inferred.least.extends in
        let P : List ℕ → Type 0 = λ numbers. RunsAsFollowed g.program g.fuel inferred.all numbers in
        let Q : List Followed → Type 0 = λ threads. RunsAsFollowed g.program g.fuel threads schedule in
        subst Q (same_followed inferred.all all _ inferred.follows is.followed.follows) (subst P (sym inferred.least.of_places) placed)

    -- how it leaves a cell
    left_with : (cell : ℕ) → IsLast cell 0 (start_of g.program cell) (run_events g.program g.fuel schedule) (run.machine.cells cell)
    unfolding run_events
    left_with cell =
        let last = unfinished (run_of g.program g.fuel schedule) run.machine run.runs in
        let made = turns_last g.program g.fuel cell schedule (ready g.program g.fuel) last.0 no_counts (sym (laws.steps g.program g.fuel schedule) ∙ last.1) in
        let P : (ℕ → ℕ) → Type 0 = λ cells. IsLast cell 0 (cells cell) (run_events g.program g.fuel schedule) (last.0.cells cell) in
        let Q : (ℕ → ℕ) → Type 0 = λ cells. IsLast cell 0 (start_of g.program cell) (run_events g.program g.fuel schedule) (cells cell) in
        subst Q last.2 (subst P (ap (λ (m : Machine). m.cells) (laws.settle g.program g.fuel)) made)

    -- which is as the history left it
    recorded_value : (cell : ℕ) → cell < cell_count g.program.decls → (state_of g is.steps).words (Value cell) ≡ run.machine.cells cell
    recorded_value cell there =
        last_value traces (after traces.starts is.steps) _ (world_of is.steps traces are_events laws.chronicles) (run_events g.program g.fuel schedule) run.events cell (run.machine.cells cell) (omega (arith, laws.starts g.program.decls)) (left_with cell)

    replay_of : (m : Machine) × IsReplayOf g recording is.steps schedule m
    replay_of =
        let out : map (λ (s : Thread). s.out) run.machine.threads ≡ recording.outputs = ap (map (λ (s : Thread). s.out)) run.threads ∙ (map-map (λ (s : Thread). s.out) (λ (f : Followed). f.thread) all ∙ is.followed.outputs) in (
          run.machine,
          record {
            runs = run.runs;
            events = λ t. run.events t ∙ ap (map plain) (are_events.events t);
            outputs = out;
            ends = ap (map end_of) run.threads ∙ (map-map end_of (λ (f : Followed). f.thread) all ∙ is.followed.ends);
            lines = sym out ∙ laws.lines g.program g.fuel schedule run.machine run.runs;
            last_values = is.history.last_values ∙ same_values (λ cell. (state_of g is.steps).words (Value cell)) run.machine.cells (cell_count g.program.decls) recorded_value;
          },
        )

pub recordings_have_schedules : Laws → RecordingsHaveSchedules
recordings_have_schedules laws = λ g recording valid some is. inferred_schedule laws g recording valid some is

pub schedules_replay_recordings : Laws → SchedulesReplayRecordings
schedules_replay_recordings laws = λ g recording schedule valid some is inferred. replay_of laws g recording valid some is schedule inferred

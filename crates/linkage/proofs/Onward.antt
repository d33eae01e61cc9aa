-- The writes and turns before a place, as the place goes on from event to event.
use Rattle.std.proofs.Common.{◌≡◌, ℕ, ◌+◌, ◌<◌, ◌≤◌, inl, length, refl, ap, arith}
use Rattle.std.specs.Prelude.{Some, None}
use Rattle.std.proofs.lemmas.Option.{slice_get_within}
use Rattle.interleavings.specs.declared.event.Event.{Event}
use Rattle.interleavings.specs.declared.traces.Place.{Place}
use Rattle.interleavings.specs.Events.{write_of, entered_by, left_by}
use Rattle.interleavings.specs.TraceLists.{TraceLists, events_of}
use Rattle.linkage.specs.declared.numbered.Numbered.{Numbered}
use Rattle.linkage.specs.AllOf.{StartsGiven, WriteGiven, TurnZero}
use Rattle.linkage.specs.GatherShows.{place_at, IsBefore, UpTo, EntryGiven, ExitGiven}
use Rattle.linkage.specs.Rounds.{IsReached, Reached, first_events}
use Rattle.linkage.specs.Sources.{event_at}
use Rattle.linkage.proofs.Frontier.{passed, taken, one_further, nothing_first, same_seen, all_seen, thread_passed, all_passed, started, same_numbered, gives_none, gives_some, gives_one, inside}
use Rattle.linkage.proofs.Growing.{IsSame, IsMore}
use Rattle.linkage.proofs.Parts.{same_write, same_turn}
use Rattle.linkage.proofs.Reaching.{nothing_reached, one_reached, reached_from_start, reached_to_next, reached_from_next, reached_to_round, reached_from_round}

-- past an event
module _ (traces : TraceLists) (t i : ℕ) (event : Event) (there : event_at traces (place_at t i) ≡ Some event) where
  pub same_writes : write_of event ≡ None → IsSame (UpTo (place_at t i) (WriteGiven traces)) (UpTo (place_at t (i + 1)) (WriteGiven traces))
  same_writes none = passed (WriteGiven traces) _ _ (place_at t i) (one_further t i) (λ item gives. gives_none traces (place_at t i) event there write_of _ none gives)

  pub same_entries : entered_by event ≡ None → IsSame (UpTo (place_at t i) (EntryGiven traces)) (UpTo (place_at t (i + 1)) (EntryGiven traces))
  same_entries none = passed (EntryGiven traces) _ _ (place_at t i) (one_further t i) (λ item gives. gives_none traces (place_at t i) event there entered_by _ none gives)

  pub same_exits : left_by event ≡ None → IsSame (UpTo (place_at t i) (ExitGiven traces)) (UpTo (place_at t (i + 1)) (ExitGiven traces))
  same_exits none = passed (ExitGiven traces) _ _ (place_at t i) (one_further t i) (λ item gives. gives_none traces (place_at t i) event there left_by _ none gives)

  pub more_writes : (x : Numbered ℕ) → write_of event ≡ Some (record { cell = x.owner; number = x.number; value = x.value }) → IsMore (UpTo (place_at t i) (WriteGiven traces)) (UpTo (place_at t (i + 1)) (WriteGiven traces)) (Some (place_at t i)) x
  more_writes x some =
      taken (WriteGiven traces) _ _ (place_at t i) (one_further t i) x (gives_some traces (place_at t i) event there write_of _ some)
      (λ item gives. let e = same_write _ _ (gives_one traces (place_at t i) event there write_of _ _ some gives) in same_numbered item x e.0 e.1 e.2)

  pub more_entries : (x : Numbered (Unit {0})) → entered_by event ≡ Some (record { monitor = x.owner; turn = x.number }) → IsMore (UpTo (place_at t i) (EntryGiven traces)) (UpTo (place_at t (i + 1)) (EntryGiven traces)) (Some (place_at t i)) x
  more_entries x some =
      taken (EntryGiven traces) _ _ (place_at t i) (one_further t i) x (gives_some traces (place_at t i) event there entered_by _ some)
      (λ item gives. let e = same_turn _ _ (gives_one traces (place_at t i) event there entered_by _ _ some gives) in same_numbered item x e.0 e.1 refl)

  pub more_exits : (x : Numbered (Unit {0})) → left_by event ≡ Some (record { monitor = x.owner; turn = x.number }) → IsMore (UpTo (place_at t i) (ExitGiven traces)) (UpTo (place_at t (i + 1)) (ExitGiven traces)) (Some (place_at t i)) x
  more_exits x some =
      taken (ExitGiven traces) _ _ (place_at t i) (one_further t i) x (gives_some traces (place_at t i) event there left_by _ some)
      (λ item gives. let e = same_turn _ _ (gives_one traces (place_at t i) event there left_by _ _ some gives) in same_numbered item x e.0 e.1 refl)

-- past the last event of a thread
module _ (traces : TraceLists) (t count : ℕ) (whole : count ≡ length (events_of traces t)) where
  here : (place : Place) → place.thread ≡ t → place.place < length (events_of traces place.thread) → place.place < count
  here place same below =
      let e : length (events_of traces place.thread) ≡ length (events_of traces t) = ap (λ thread. length (events_of traces thread)) same in
      omega (arith, e, whole)

  pub next_writes : IsSame (UpTo (place_at t count) (WriteGiven traces)) (UpTo (place_at (t + 1) 0) (WriteGiven traces))
  next_writes = thread_passed (WriteGiven traces) t count (λ place item gives same. here place same (inside traces place write_of _ gives).0)

  pub next_entries : IsSame (UpTo (place_at t count) (EntryGiven traces)) (UpTo (place_at (t + 1) 0) (EntryGiven traces))
  next_entries = thread_passed (EntryGiven traces) t count (λ place item gives same. here place same (inside traces place entered_by _ gives).0)

  pub next_exits : IsSame (UpTo (place_at t count) (ExitGiven traces)) (UpTo (place_at (t + 1) 0) (ExitGiven traces))
  next_exits = thread_passed (ExitGiven traces) t count (λ place item gives same. here place same (inside traces place left_by _ gives).0)

-- past the last thread
module _ (traces : TraceLists) (threads : ℕ) (is : threads ≡ length traces.events) where
  pub all_writes : IsSame (UpTo (place_at threads 0) (WriteGiven traces)) (WriteGiven traces)
  all_writes = all_passed (WriteGiven traces) threads (λ place item gives. rw is (inside traces place write_of _ gives).1)

  pub all_entries : IsSame (UpTo (place_at threads 0) (EntryGiven traces)) (EntryGiven traces)
  all_entries = all_passed (EntryGiven traces) threads (λ place item gives. rw is (inside traces place entered_by _ gives).1)

  pub all_exits : IsSame (UpTo (place_at threads 0) (ExitGiven traces)) (ExitGiven traces)
  all_exits = all_passed (ExitGiven traces) threads (λ place item gives. rw is (inside traces place left_by _ gives).1)

-- before the first event
pub start_writes : (traces : TraceLists) (cells : ℕ) → cells ≡ length traces.starts → IsSame (StartsGiven (WriteGiven traces) cells) (UpTo (place_at 0 0) (WriteGiven traces))
start_writes traces cells is = started (WriteGiven traces) (λ place. IsBefore place (place_at 0 0)) nothing_first (WriteGiven traces) cells (λ item gives below. gives) (λ item gives. (gives, omega (arith, is, slice_get_within traces.starts item.owner item.value gives.1)))

module _ (traces : TraceLists) (monitors : ℕ) (is : monitors ≡ traces.monitors) where
  pub start_entries : IsSame (StartsGiven TurnZero monitors) (UpTo (place_at 0 0) (EntryGiven traces))
  start_entries = started (EntryGiven traces) (λ place. IsBefore place (place_at 0 0)) nothing_first TurnZero monitors (λ item none below. (none, omega (arith, below, is))) (λ item gives. (gives.0, omega (arith, gives.1, is)))

  pub start_exits : IsSame (StartsGiven TurnZero monitors) (UpTo (place_at 0 0) (ExitGiven traces))
  start_exits = started (ExitGiven traces) (λ place. IsBefore place (place_at 0 0)) nothing_first TurnZero monitors (λ item none below. (none, omega (arith, below, is))) (λ item gives. (gives.0, omega (arith, gives.1, is)))

-- in rounds
module _ (traces : TraceLists) (from to : ℕ) where
  -- a thread's part of the round begins wherever its earlier events end
  pub part_reached : (t start : ℕ) → start ≤ from → IsSame (Reached from to (place_at t 0) (WriteGiven traces)) (Reached from to (place_at t start) (WriteGiven traces))
  part_reached t start low =
      same_seen (WriteGiven traces) (IsReached from to (place_at t 0)) (IsReached from to (place_at t start))
      (λ place item gives. reached_from_start from to t 0 start (omega arith) place)
      (λ place item gives. reached_from_start from to t start 0 low place)

  -- past an event
  module _ (t i : ℕ) (on : from ≤ i) (event : Event) (there : event_at traces (place_at t i) ≡ Some event) where
    pub same_reached : write_of event ≡ None → IsSame (Reached from to (place_at t i) (WriteGiven traces)) (Reached from to (place_at t (i + 1)) (WriteGiven traces))
    same_reached none = passed (WriteGiven traces) _ _ (place_at t i) (one_reached from to t i on) (λ item gives. gives_none traces (place_at t i) event there write_of _ none gives)

    pub more_reached : (x : Numbered ℕ) → write_of event ≡ Some (record { cell = x.owner; number = x.number; value = x.value }) → IsMore (Reached from to (place_at t i) (WriteGiven traces)) (Reached from to (place_at t (i + 1)) (WriteGiven traces)) (Some (place_at t i)) x
    more_reached x some =
        taken (WriteGiven traces) _ _ (place_at t i) (one_reached from to t i on) x (gives_some traces (place_at t i) event there write_of _ some)
        (λ item gives. let e = same_write _ _ (gives_one traces (place_at t i) event there write_of _ _ some gives) in same_numbered item x e.0 e.1 e.2)

  -- past a thread's part of the round
  pub next_reached : (t stop : ℕ) → stop ≡ first_events traces to t → IsSame (Reached from to (place_at t stop) (WriteGiven traces)) (Reached from to (place_at (t + 1) 0) (WriteGiven traces))
  next_reached t stop is =
      same_seen (WriteGiven traces) (IsReached from to (place_at t stop)) (IsReached from to (place_at (t + 1) 0))
      (λ place item gives. reached_to_next from to t stop 0 (omega arith) place (omega (arith, is)))
      (λ place item gives. reached_from_next from to t stop 0 (omega arith) place (λ same before. here place same before (inside traces place write_of _ gives).0))
    where
      here : (place : Place) → place.thread ≡ t → place.place < to → place.place < length (events_of traces place.thread) → place.place < stop
      here place same before below =
          let e : length (events_of traces place.thread) ≡ length (events_of traces t) = ap (λ thread. length (events_of traces thread)) same in
          omega (arith, e, is, before, below)

  -- the end of the round is the beginning of the next
  pub round_reached : (threads later : ℕ) → threads ≡ length traces.events → from ≤ to → IsSame (Reached from to (place_at threads 0) (WriteGiven traces)) (Reached to later (place_at 0 0) (WriteGiven traces))
  round_reached threads later all on =
      same_seen (WriteGiven traces) (IsReached from to (place_at threads 0)) (IsReached to later (place_at 0 0))
      (λ place item gives. reached_to_round from to later threads 0 0 on (omega arith) (omega arith) place (omega (arith, all, (inside traces place write_of _ gives).1)))
      (λ place item gives. reached_from_round from to later threads 0 0 on (omega arith) (omega arith) place (omega (arith, all, (inside traces place write_of _ gives).1)))

  -- past the last round
  pub all_reached : ((thread : ℕ) → length (events_of traces thread) ≤ from) → IsSame (Reached from to (place_at 0 0) (WriteGiven traces)) (WriteGiven traces)
  all_reached most = all_seen (WriteGiven traces) (IsReached from to (place_at 0 0)) (λ place item gives. inl (omega (arith, most place.thread, (inside traces place write_of _ gives).0)))

-- before the first round
pub start_reached : (traces : TraceLists) (cells to : ℕ) → cells ≡ length traces.starts → IsSame (StartsGiven (WriteGiven traces) cells) (Reached 0 to (place_at 0 0) (WriteGiven traces))
start_reached traces cells to is = started (WriteGiven traces) (IsReached 0 to (place_at 0 0)) (nothing_reached to) (WriteGiven traces) cells (λ item gives below. gives) (λ item gives. (gives, omega (arith, is, slice_get_within traces.starts item.owner item.value gives.1)))

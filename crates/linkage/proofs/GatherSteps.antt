-- All writes and turns before a place, with those of the event there.
use Rattle.std.proofs.Common.{◌≡◌, ℕ, ◌+◌, ◌<◌, ◌≤◌, inl, inr, List, [], ◌∷◌, ◌++◌, length, refl, sym, ap, subst, arith, length-append}
use Rattle.std.specs.Prelude.{Option, Some, None}
use Rattle.std.proofs.lemmas.List.Sums.{sum_by-take-le, sum_by_more}
use Rattle.stride_isa.specs.Limits.{cell_limit, monitor_limit}
use Rattle.interleavings.specs.declared.event.Event.{Event}
use Rattle.interleavings.specs.declared.event.Event.TheVariants.{Read, Write, Update, Enter, Exit}
use Rattle.interleavings.specs.declared.traces.Place.{Place}
use Rattle.interleavings.specs.TraceLists.{TraceLists, IsInRange, events_of}
use Rattle.linkage.specs.declared.gathered.Gathered.{Gathered}
use Rattle.linkage.specs.declared.numbered.Numbered.{Numbered}
use Rattle.linkage.specs.AllOf.{IsAllOf, StartsGiven, WriteGiven, TurnZero}
use Rattle.linkage.specs.GatherShows.{place_at, events_before, UpTo, EntryGiven, ExitGiven, IsGathered, IsGatheredAll, IsAdded}
use Rattle.linkage.specs.Numbers.{AreOwned}
use Rattle.linkage.specs.Sources.{event_at}
use Rattle.linkage.proofs.AllOfLists.{get_pushed, listed_same, listed_more}
use Rattle.linkage.proofs.Onward.{same_writes, same_entries, same_exits, more_writes, more_entries, more_exits, next_writes, next_entries, next_exits, all_writes, all_entries, all_exits, start_writes, start_entries, start_exits}

-- one item more, of an owner that is there
owned_more : {V : Type 0} (items : List (Numbered V)) (x : Numbered V) (owners : ℕ) → x.owner < owners → AreOwned items owners → AreOwned (items ++ x ∷ []) owners
owned_more {V} items x owners below owned i o n (v, is) =
    let a : Numbered V = record { owner = o; number = n; value = v } in
    elim (get_pushed items x a i is) [
      | inl was ↦ owned i o n (v, was)
      | inr one ↦ (let e = ap (λ (item : Numbered V). item.owner) one.1 in omega (arith, e, below))
    ]

-- the parts of what was gathered, by lists that are equal to its own
assembled : (traces : TraceLists) (place : Place) (g : Gathered) (writes : List (Numbered ℕ)) (entries exits : List (Numbered (Unit {0}))) →
    g.writes.items ≡ writes → g.entries.items ≡ entries → g.exits.items ≡ exits →
    IsAllOf (UpTo place (WriteGiven traces)) writes → IsAllOf (UpTo place (EntryGiven traces)) entries → IsAllOf (UpTo place (ExitGiven traces)) exits →
    AreOwned writes (length traces.starts) → AreOwned entries traces.monitors → AreOwned exits traces.monitors →
    length traces.starts ≤ cell_limit → traces.monitors ≤ monitor_limit → length writes ≤ length traces.starts + events_before traces place → IsGathered traces place g
assembled traces place g writes entries exits are_writes are_entries are_exits all_writes all_entries all_exits own_writes own_entries own_exits cells monitors few =
    let PW : List (Numbered ℕ) → Type 0 = λ items. IsAllOf (UpTo place (WriteGiven traces)) items in
    let PE : List (Numbered (Unit {0})) → Type 0 = λ items. IsAllOf (UpTo place (EntryGiven traces)) items in
    let PX : List (Numbered (Unit {0})) → Type 0 = λ items. IsAllOf (UpTo place (ExitGiven traces)) items in
    let OW : List (Numbered ℕ) → Type 0 = λ items. AreOwned items (length traces.starts) in
    let OT : List (Numbered (Unit {0})) → Type 0 = λ items. AreOwned items traces.monitors in
    record {
      writes = subst PW (sym are_writes) all_writes;
      entries = subst PE (sym are_entries) all_entries;
      exits = subst PX (sym are_exits) all_exits;
      within = record { writes = subst OW (sym are_writes) own_writes; entries = subst OT (sym are_entries) own_entries; exits = subst OT (sym are_exits) own_exits; cells = cells; monitors = monitors };
      few = rw are_writes few;
    }

-- what an event adds to what was gathered before it
pub gathered_step : (traces : TraceLists) (t i : ℕ) (event : Event) (old new : Gathered) → event_at traces (place_at t i) ≡ Some event → IsInRange traces event → IsGathered traces (place_at t i) old → IsAdded event old new → IsGathered traces (place_at t (i + 1)) new
gathered_step traces t i (Read cell value bound) old new there range g is =
    assembled traces (place_at t (i + 1)) new old.writes.items old.entries.items old.exits.items (ap (λ (h : Gathered). h.writes.items) is) (ap (λ (h : Gathered). h.entries.items) is) (ap (λ (h : Gathered). h.exits.items) is)
    (listed_same _ _ old.writes.items (same_writes traces t i (Read cell value bound) there refl) g.writes) (listed_same _ _ old.entries.items (same_entries traces t i (Read cell value bound) there refl) g.entries) (listed_same _ _ old.exits.items (same_exits traces t i (Read cell value bound) there refl) g.exits)
    g.within.writes g.within.entries g.within.exits g.within.cells g.within.monitors (omega (arith, g.few))
gathered_step traces t i (Write cell value number) old new there range g is =
    let x : Numbered ℕ = record { owner = cell; number = number; value = value } in
    assembled traces (place_at t (i + 1)) new (old.writes.items ++ x ∷ []) old.entries.items old.exits.items is.0 (ap (λ v. v.items) is.1) (ap (λ v. v.items) is.2)
    (listed_more _ _ old.writes.items _ x (more_writes traces t i (Write cell value number) there x refl) g.writes) (listed_same _ _ old.entries.items (same_entries traces t i (Write cell value number) there refl) g.entries) (listed_same _ _ old.exits.items (same_exits traces t i (Write cell value number) there refl) g.exits)
    (owned_more old.writes.items x (length traces.starts) range g.within.writes) g.within.entries g.within.exits g.within.cells g.within.monitors (omega (arith, g.few, length-append {A = Numbered ℕ}))
gathered_step traces t i (Update cell before after number) old new there range g is =
    let x : Numbered ℕ = record { owner = cell; number = number; value = after } in
    assembled traces (place_at t (i + 1)) new (old.writes.items ++ x ∷ []) old.entries.items old.exits.items is.0 (ap (λ v. v.items) is.1) (ap (λ v. v.items) is.2)
    (listed_more _ _ old.writes.items _ x (more_writes traces t i (Update cell before after number) there x refl) g.writes) (listed_same _ _ old.entries.items (same_entries traces t i (Update cell before after number) there refl) g.entries) (listed_same _ _ old.exits.items (same_exits traces t i (Update cell before after number) there refl) g.exits)
    (owned_more old.writes.items x (length traces.starts) range g.within.writes) g.within.entries g.within.exits g.within.cells g.within.monitors (omega (arith, g.few, length-append {A = Numbered ℕ}))
gathered_step traces t i (Enter monitor turn) old new there range g is =
    let x : Numbered (Unit {0}) = record { owner = monitor; number = turn; value = tt } in
    assembled traces (place_at t (i + 1)) new old.writes.items (old.entries.items ++ x ∷ []) old.exits.items (ap (λ v. v.items) is.1) is.0 (ap (λ v. v.items) is.2)
    (listed_same _ _ old.writes.items (same_writes traces t i (Enter monitor turn) there refl) g.writes) (listed_more _ _ old.entries.items _ x (more_entries traces t i (Enter monitor turn) there x refl) g.entries) (listed_same _ _ old.exits.items (same_exits traces t i (Enter monitor turn) there refl) g.exits)
    g.within.writes (owned_more old.entries.items x traces.monitors range g.within.entries) g.within.exits g.within.cells g.within.monitors (omega (arith, g.few))
gathered_step traces t i (Exit monitor turn) old new there range g is =
    let x : Numbered (Unit {0}) = record { owner = monitor; number = turn; value = tt } in
    assembled traces (place_at t (i + 1)) new old.writes.items old.entries.items (old.exits.items ++ x ∷ []) (ap (λ v. v.items) is.1) (ap (λ v. v.items) is.2) is.0
    (listed_same _ _ old.writes.items (same_writes traces t i (Exit monitor turn) there refl) g.writes) (listed_same _ _ old.entries.items (same_entries traces t i (Exit monitor turn) there refl) g.entries) (listed_more _ _ old.exits.items _ x (more_exits traces t i (Exit monitor turn) there x refl) g.exits)
    g.within.writes g.within.entries (owned_more old.exits.items x traces.monitors range g.within.exits) g.within.cells g.within.monitors (omega (arith, g.few))

-- the events of a thread are all gathered
pub gathered_next : (traces : TraceLists) (t count : ℕ) (g : Gathered) → t < length traces.events → count ≡ length (events_of traces t) → IsGathered traces (place_at t count) g → IsGathered traces (place_at (t + 1) 0) g
gathered_next traces t count g inside is all = record {
  writes = listed_same _ _ g.writes.items (next_writes traces t count is) all.writes;
  entries = listed_same _ _ g.entries.items (next_entries traces t count is) all.entries;
  exits = listed_same _ _ g.exits.items (next_exits traces t count is) all.exits;
  within = all.within;
  few = omega (arith, all.few, is, sum_by_more length traces.events t [] inside);
}

-- and so are those of all threads
pub gathered_all : (traces : TraceLists) (threads : ℕ) (g : Gathered) → threads ≡ length traces.events → IsGathered traces (place_at threads 0) g → IsGatheredAll traces g
gathered_all traces threads g is all = record {
  writes = listed_same _ _ g.writes.items (all_writes traces threads is) all.writes;
  entries = listed_same _ _ g.entries.items (all_entries traces threads is) all.entries;
  exits = listed_same _ _ g.exits.items (all_exits traces threads is) all.exits;
  within = all.within;
  few = omega (arith, all.few, sum_by-take-le length traces.events threads);
}

-- what is listed from the start is owned
owned_from_starts : {V : Type 0} (given : Option Place → Numbered V → Type 0) (owners : ℕ) (items : List (Numbered V)) → IsAllOf (StartsGiven given owners) items → AreOwned items owners
owned_from_starts {V} given owners items all i o n (v, is) =
    let s = all.sound i (record { owner = o; number = n; value = v }) is in owned s.0 s.1
  where
    owned : (source : Option Place) → StartsGiven given owners source (record { owner = o; number = n; value = v }) → o < owners
    owned None gives = gives.1
    owned (Some place) gives = absurd gives

-- before the first event there are the starting values and turn 0 of each monitor
pub gathered_start : (traces : TraceLists) (g : Gathered) (monitors : ℕ) → monitors ≡ traces.monitors → monitors ≤ monitor_limit → length traces.starts ≤ cell_limit → IsAllOf (StartsGiven (WriteGiven traces) (length traces.starts)) g.writes.items → length g.writes.items ≡ length traces.starts → IsAllOf (StartsGiven TurnZero monitors) g.entries.items → IsAllOf (StartsGiven TurnZero monitors) g.exits.items → IsGathered traces (place_at 0 0) g
gathered_start traces g monitors same few_monitors few_cells writes count entries exits = record {
  writes = listed_same _ _ g.writes.items (start_writes traces (length traces.starts) refl) writes;
  entries = listed_same _ _ g.entries.items (start_entries traces monitors same) entries;
  exits = listed_same _ _ g.exits.items (start_exits traces monitors same) exits;
  within = record {
    writes = owned_from_starts (WriteGiven traces) (length traces.starts) g.writes.items writes;
    entries = λ i o n at. omega (arith, owned_from_starts TurnZero monitors g.entries.items entries i o n at, same);
    exits = λ i o n at. omega (arith, owned_from_starts TurnZero monitors g.exits.items exits i o n at, same);
    cells = few_cells;
    monitors = omega (arith, same, few_monitors);
  };
  few = omega (arith, count);
}

-- Greatest numbers, as what is given grows.
use Rattle.std.proofs.Common.{◌≡◌, ◌≢◌, ◌∙◌, ℕ, zero, suc, ◌+◌, ◌<◌, ◌≤◌, inl, inr, List, length, get_or, max, replicate, refl, sym, ap, subst, arith, get_or-set_same, get_or-set_other}
use Rattle.std.specs.Prelude.{Option, Some, None, slice_index}
use Rattle.std.proofs.lemmas.Bool.{cases_eq, cases_lt}
use Rattle.std.proofs.lemmas.List.{length-replicate, length-set}
use Rattle.std.proofs.lemmas.Option.{slice_get-get_or}
use Rattle.stride_isa.specs.Limits.{cell_limit, monitor_limit}
use Rattle.interleavings.specs.declared.event.Event.{Event}
use Rattle.interleavings.specs.declared.event.Event.TheVariants.{Read, Write, Update, Enter, Exit}
use Rattle.interleavings.specs.declared.traces.Place.{Place}
use Rattle.interleavings.specs.TraceLists.{TraceLists, IsInRange, events_of}
use Rattle.linkage.specs.declared.numbered.Numbered.{Numbered}
use Rattle.linkage.specs.declared.tops.Tops.{Tops}
use Rattle.linkage.specs.AllOf.{IsAllOf, StartsGiven, WriteGiven, TurnZero}
use Rattle.linkage.specs.GatherShows.{EntryGiven, UpTo, place_at}
use Rattle.linkage.specs.Numbers.{AreGreatest}
use Rattle.linkage.specs.Placing.{AreTopsBefore, AreTopsOfAll, IsRaised, raised}
use Rattle.linkage.specs.Sources.{event_at}
use Rattle.linkage.specs.Spans.{AreTops, IsGivenOne}
use Rattle.linkage.proofs.Growing.{IsSame, IsMore, one_kept}
use Rattle.linkage.proofs.Onward.{same_writes, same_entries, more_writes, more_entries, next_writes, next_entries, all_writes, all_entries, start_writes, start_entries}

module _ {V : Type 0} (given given' : Option Place → Numbered V → Type 0) (owners : ℕ) (greatest : List ℕ) (tops : AreTops given owners greatest) where
  pub tops_same : IsSame given given' → AreTops given' owners greatest
  tops_same same = record {
    count = tops.count;
    owned = λ source item gives. tops.owned source item (same.back source item gives);
    above = λ source item gives. tops.above source item (same.back source item gives);
    reached = λ owner own. one_kept given given' same.kept owner (slice_index greatest owner) (tops.reached owner own);
  }

  module _ (new : Option Place) (x : Numbered V) (own : x.owner < owners) (more : IsMore given given' new x) where
    abbrev old : ℕ
    old = slice_index greatest x.owner

    abbrev higher : List ℕ
    higher = raised greatest x.owner x.number

    at_owner : slice_index higher x.owner ≡ max old x.number
    at_owner = get_or-set_same greatest x.owner (max old x.number) 0 (omega (arith, tops.count))

    elsewhere : (owner : ℕ) → owner ≢ x.owner → slice_index higher owner ≡ slice_index greatest owner
    elsewhere owner apart = get_or-set_other greatest x.owner owner (max old x.number) 0 apart

    no_lower : (owner : ℕ) → slice_index greatest owner ≤ slice_index higher owner
    no_lower owner =
        elim (cases_eq owner x.owner) [
          | inl same ↦ (let P : ℕ → Type 0 = λ o. slice_index greatest o ≤ slice_index higher o in subst P (sym same) (omega (arith, at_owner)))
          | inr apart ↦ omega (arith, elsewhere owner apart)
        ]

    given_at : (number : ℕ) → number ≡ max old x.number → IsGivenOne given' x.owner number
    given_at number is =
        elim (cases_lt old x.number) [
          | inl less ↦ (let e : x.number ≡ number = omega arith in subst (λ (n : ℕ). IsGivenOne given' x.owner n) e (record { source = new; value = x.value; gives = more.here }))
          | inr most ↦ (let e : old ≡ number = omega arith in subst (λ (n : ℕ). IsGivenOne given' x.owner n) e (one_kept given given' more.kept x.owner old (tops.reached x.owner own)))
        ]

    -- one item more raises the greatest number of its owner to its own where that is greater
    pub tops_more : AreTops given' owners (raised greatest x.owner x.number)
    tops_more = record {
      count = length-set greatest x.owner (max old x.number) ∙ tops.count;
      owned = λ source item gives.
          elim (more.news source item gives) [
            | inl was ↦ tops.owned source item was
            | inr one ↦ (let e = ap (λ (i : Numbered V). i.owner) one.1 in omega (arith, e, own))
          ];
      above = λ source item gives.
          elim (more.news source item gives) [
            | inl was ↦ omega (arith, tops.above source item was, no_lower item.owner)
            | inr one ↦ (
                let P : Numbered V → Type 0 = λ i. i.number ≤ slice_index higher i.owner in
                subst P (sym one.1) (omega (arith, at_owner)))
          ];
      reached = λ owner own'.
          elim (cases_eq owner x.owner) [
            | inl same ↦ (
                let P : ℕ → Type 0 = λ o. IsGivenOne given' o (slice_index higher o) in
                subst P (sym same) (given_at (slice_index higher x.owner) at_owner))
            | inr apart ↦ (
                let P : ℕ → Type 0 = λ n. IsGivenOne given' owner n in
                subst P (sym (elsewhere owner apart)) (one_kept given given' more.kept owner (slice_index greatest owner) (tops.reached owner own')))
          ];
    }

-- the greatest numbers of what is given are those of a list of all of it
pub listed_tops : {V : Type 0} (given : Option Place → Numbered V → Type 0) (items : List (Numbered V)) (owners : ℕ) (greatest : List ℕ) → IsAllOf given items → AreTops given owners greatest → AreGreatest items owners greatest
listed_tops {V} given items owners greatest all tops = record {
  count = tops.count;
  above = λ i owner number there. let s = all.sound i _ there.1 in tops.above s.0 _ s.1;
  there = λ owner own. let one = tops.reached owner own in let at = all.complete one.source _ one.gives in (at.0, (one.value, at.1));
}

zeros_at : (count o : ℕ) → slice_index (replicate count 0) o ≡ 0
zeros_at zero o = refl
zeros_at (suc count) zero = refl
zeros_at (suc count) (suc o) = zeros_at count o

-- from the start only number 0 is given, to each owner
pub tops_start : {V : Type 0} (given : Option Place → Numbered V → Type 0) (owners : ℕ) (greatest : List ℕ) → greatest ≡ replicate owners 0 → ((item : Numbered V) → given None item → item.number ≡ 0) → ((owner : ℕ) → owner < owners → (value : V) × given None (record { owner = owner; number = 0; value = value })) → AreTops (StartsGiven given owners) owners greatest
tops_start {V} given owners greatest is first each = record { count = ap length is ∙ length-replicate owners 0; owned = owned; above = above; reached = reached }
  where
    zero_at : (owner : ℕ) → slice_index greatest owner ≡ 0
    zero_at owner = ap (λ numbers. slice_index numbers owner) is ∙ zeros_at owners owner

    owned : (source : Option Place) (item : Numbered V) → StartsGiven given owners source item → item.owner < owners
    owned None item gives = gives.1
    owned (Some place) item gives = absurd gives

    above : (source : Option Place) (item : Numbered V) → StartsGiven given owners source item → item.number ≤ slice_index greatest item.owner
    above None item gives = omega (arith, first item gives.0)
    above (Some place) item gives = absurd gives

    reached : (owner : ℕ) → owner < owners → IsGivenOne (StartsGiven given owners) owner (slice_index greatest owner)
    reached owner own =
        let one = each owner own in
        let P : ℕ → Type 0 = λ number. IsGivenOne (StartsGiven given owners) owner number in
        subst P (sym (zero_at owner)) (record { source = None; value = one.0; gives = (one.1, own) })

-- the greatest numbers before the next event
pub topped_step : (traces : TraceLists) (t i : ℕ) (event : Event) (old new : Tops) → event_at traces (place_at t i) ≡ Some event → IsInRange traces event → AreTopsBefore traces (place_at t i) old → IsRaised event old new → AreTopsBefore traces (place_at t (i + 1)) new
topped_step traces t i (Read cell value bound) old new there range before is = record {
  writes = rw is (tops_same _ _ _ _ before.writes (same_writes traces t i (Read cell value bound) there refl));
  entries = rw is (tops_same _ _ _ _ before.entries (same_entries traces t i (Read cell value bound) there refl));
}
topped_step traces t i (Write cell value number) old new there range before is =
    let x : Numbered ℕ = record { owner = cell; number = number; value = value } in
    record {
      writes = rw is.0 (tops_more _ _ _ _ before.writes _ x range (more_writes traces t i (Write cell value number) there x refl));
      entries = rw is.1 (tops_same _ _ _ _ before.entries (same_entries traces t i (Write cell value number) there refl));
    }
topped_step traces t i (Update cell was after number) old new there range before is =
    let x : Numbered ℕ = record { owner = cell; number = number; value = after } in
    record {
      writes = rw is.0 (tops_more _ _ _ _ before.writes _ x range (more_writes traces t i (Update cell was after number) there x refl));
      entries = rw is.1 (tops_same _ _ _ _ before.entries (same_entries traces t i (Update cell was after number) there refl));
    }
topped_step traces t i (Enter monitor turn) old new there range before is =
    let x : Numbered (Unit {0}) = record { owner = monitor; number = turn; value = tt } in
    record {
      writes = rw is.1 (tops_same _ _ _ _ before.writes (same_writes traces t i (Enter monitor turn) there refl));
      entries = rw is.0 (tops_more _ _ _ _ before.entries _ x range (more_entries traces t i (Enter monitor turn) there x refl));
    }
topped_step traces t i (Exit monitor turn) old new there range before is = record {
  writes = rw is (tops_same _ _ _ _ before.writes (same_writes traces t i (Exit monitor turn) there refl));
  entries = rw is (tops_same _ _ _ _ before.entries (same_entries traces t i (Exit monitor turn) there refl));
}

-- the greatest numbers before the next thread
pub topped_next : (traces : TraceLists) (t count : ℕ) (tops : Tops) → count ≡ length (events_of traces t) → AreTopsBefore traces (place_at t count) tops → AreTopsBefore traces (place_at (t + 1) 0) tops
topped_next traces t count tops is before = record {
  writes = tops_same _ _ _ _ before.writes (next_writes traces t count is);
  entries = tops_same _ _ _ _ before.entries (next_entries traces t count is);
}

-- the greatest numbers of all
pub topped_all : (traces : TraceLists) (threads : ℕ) (tops : Tops) → threads ≡ length traces.events → length traces.starts ≤ cell_limit → traces.monitors ≤ monitor_limit → AreTopsBefore traces (place_at threads 0) tops → AreTopsOfAll traces tops
topped_all traces threads tops is cells monitors before = record {
  writes = tops_same _ _ _ _ before.writes (all_writes traces threads is);
  entries = tops_same _ _ _ _ before.entries (all_entries traces threads is);
  cells = cells;
  monitors = monitors;
}

-- the greatest numbers before the first event
pub topped_start : (traces : TraceLists) (cells monitors : ℕ) (tops : Tops) → cells ≡ length traces.starts → monitors ≡ traces.monitors → tops.writes.items ≡ replicate cells 0 → tops.entries.items ≡ replicate monitors 0 → AreTopsBefore traces (place_at 0 0) tops
topped_start traces cells monitors tops cells_is monitors_is writes entries = record {
  writes =
      let P : ℕ → Type 0 = λ owners. AreTops (UpTo (place_at 0 0) (WriteGiven traces)) owners tops.writes.items in
      subst P cells_is
      (tops_same _ _ _ _ (tops_start (WriteGiven traces) cells tops.writes.items writes (λ item gives. gives.0) (λ cell own. (get_or traces.starts cell 0, (refl, slice_get-get_or traces.starts cell 0 (omega (arith, own, cells_is))))))
      (start_writes traces cells cells_is));
  entries =
      let P : ℕ → Type 0 = λ owners. AreTops (UpTo (place_at 0 0) (EntryGiven traces)) owners tops.entries.items in
      subst P monitors_is (tops_same _ _ _ _ (tops_start TurnZero monitors tops.entries.items entries (λ item none. none) (λ monitor own. (tt, refl))) (start_entries traces monitors monitors_is));
}

-- What the checks of numbers and turns find is what is refused.
use Rattle.std.proofs.Common.{◌≡◌, ℕ, List, length, get_or, refl, arith}
use Rattle.std.specs.Prelude.{Some, None, slice_get, slice_index}
use Rattle.std.proofs.lemmas.Option.{slice_get-get_or}
use Rattle.interleavings.specs.TraceLists.{TraceLists}
use Rattle.linkage.specs.declared.link_error.LinkError.{LinkError}
use Rattle.linkage.specs.declared.link_error.LinkError.TheVariants.{TwiceWritten, WriteGap, TwiceTurned, TurnGap}
use Rattle.linkage.specs.declared.numbered.Numbered.{Numbered}
use Rattle.linkage.specs.AllOf.{IsAllOf, WriteGiven}
use Rattle.linkage.specs.Checking.{NoneBelow}
use Rattle.linkage.specs.GatherShows.{EntryGiven, ExitGiven}
use Rattle.linkage.specs.Numbers.{NotAfter, IsTwice, IsFirstTwice, AreOwned, AreStarted, AreGreatest, IsGap, IsFirstGap}
use Rattle.linkage.specs.Refusals.{IsTwiceWritten, IsWriteGap, IsTwiceTurned, IsTurnGap, IsRefused, IsFirstRefusal, rank_of}
use Rattle.linkage.specs.Sources.{Stored}
use Rattle.linkage.proofs.RefusalOrder.{none_below_first, none_below_next, first_of_kind}

-- writes
module _ (traces : TraceLists) (items : List (Numbered ℕ)) (all : IsAllOf (WriteGiven traces) items) where
  -- each cell has its starting value
  pub started_writes : AreStarted items (length traces.starts)
  started_writes cell below =
      let at = all.complete None (record { owner = cell; number = 0; value = get_or traces.starts cell 0 }) (refl, slice_get-get_or traces.starts cell 0 below) in
      (at.0, (get_or traces.starts cell 0, at.1))

  -- a write that is stored is listed
  pub stored_listed : (cell number value : ℕ) → Stored traces cell number value → (i : ℕ) × (slice_get items i ≡ Some (record { owner = cell; number = number; value = value }))
  stored_listed cell number value stored = all.complete stored.0 (record { owner = cell; number = number; value = value }) stored.1

  -- a write that is listed is stored
  pub listed_stored : (i : ℕ) (item : Numbered ℕ) → slice_get items i ≡ Some item → Stored traces item.owner item.number item.value
  listed_stored i item is = let s = all.sound i item is in (s.0, s.1)

  twice_written : (cell number : ℕ) → IsTwice items cell number → IsTwiceWritten traces cell number
  twice_written cell number t =
      let g = all.twice cell number t in
      record { one = g.one; other = g.other; differ = g.differ; one_value = g.one_value; one_writes = g.one_gives; other_value = g.other_value; other_writes = g.other_gives }

  written_twice : (cell number : ℕ) → IsTwiceWritten traces cell number → IsTwice items cell number
  written_twice cell number t =
      all.once cell number (record { one = t.one; other = t.other; differ = t.differ; one_value = t.one_value; one_gives = t.one_writes; other_value = t.other_value; other_gives = t.other_writes })

  -- the least number that two items have is written twice first
  pub first_twice_written : (cell number : ℕ) → IsFirstTwice items (Some (cell, number)) → IsFirstRefusal traces (TwiceWritten cell number)
  first_twice_written cell number found =
      first_of_kind traces (TwiceWritten cell number) (twice_written cell number found.0) (none_below_first traces) least
    where
      least : (other : LinkError) → IsRefused traces other → (rank_of other).0 ≡ 1 → NotAfter cell number (rank_of other).1 (rank_of other).2
      least (TwiceWritten cell' number') refused same = found.1 cell' number' (written_twice cell' number' refused)
      least other refused same = absurd (omega arith)

  pub none_written_twice : IsFirstTwice items None → NoneBelow traces 2
  none_written_twice none = none_below_next traces 1 (none_below_first traces) absent
    where
      absent : (other : LinkError) → IsRefused traces other → (rank_of other).0 ≡ 1 → ⊥
      absent (TwiceWritten cell number) refused same = none cell number (written_twice cell number refused)
      absent other refused same = absurd (omega arith)

  module _ (greatest : List ℕ) (owned : AreOwned items (length traces.starts)) (are : AreGreatest items (length traces.starts) greatest) where
    write_gap : (cell number : ℕ) → IsGap items greatest cell number → IsWriteGap traces cell number
    write_gap cell number gap =
        let top = are.there cell (omega (arith, gap.owned, are.count)) in
        record {
          missing = λ value stored. let at = stored_listed cell number value stored in gap.missing at.0 (value, at.1);
          greater = slice_index greatest cell;
          above = gap.below;
          greater_value = top.1.0;
          there = listed_stored top.0 _ top.1.1;
        }

    gap_written : (cell number : ℕ) → IsWriteGap traces cell number → IsGap items greatest cell number
    gap_written cell number gap =
        let at = stored_listed cell gap.greater gap.greater_value gap.there in
        let inside = owned at.0 cell gap.greater (gap.greater_value, at.1) in
        record {
          owned = omega (arith, inside, are.count);
          below = omega (arith, gap.above, are.above at.0 cell gap.greater (gap.greater_value, at.1));
          missing = λ i there. gap.missing there.0 (listed_stored i _ there.1);
        }

    -- the least number that is left out
    pub first_write_gap : (cell number : ℕ) → NoneBelow traces 2 → IsFirstGap items greatest (Some (cell, number)) → IsFirstRefusal traces (WriteGap cell number)
    first_write_gap cell number below found =
        first_of_kind traces (WriteGap cell number) (write_gap cell number found.0) below least
      where
        least : (other : LinkError) → IsRefused traces other → (rank_of other).0 ≡ 2 → NotAfter cell number (rank_of other).1 (rank_of other).2
        least (WriteGap cell' number') refused same = found.1 cell' number' (gap_written cell' number' refused)
        least other refused same = absurd (omega arith)

    pub no_write_gap : NoneBelow traces 2 → IsFirstGap items greatest None → NoneBelow traces 3
    no_write_gap below none = none_below_next traces 2 below absent
      where
        absent : (other : LinkError) → IsRefused traces other → (rank_of other).0 ≡ 2 → ⊥
        absent (WriteGap cell number) refused same = none cell number (gap_written cell number refused)
        absent other refused same = absurd (omega arith)

-- turns
module _ (traces : TraceLists) (entries exits : List (Numbered (Unit {0}))) (entered : IsAllOf (EntryGiven traces) entries) (left : IsAllOf (ExitGiven traces) exits) where
  pub started_entries : AreStarted entries traces.monitors
  started_entries monitor below =
      let at = entered.complete None (record { owner = monitor; number = 0; value = tt }) (refl, below) in
      (at.0, (tt, at.1))

  pub started_exits : AreStarted exits traces.monitors
  started_exits monitor below =
      let at = left.complete None (record { owner = monitor; number = 0; value = tt }) (refl, below) in
      (at.0, (tt, at.1))

  twice_turned : (monitor turn : ℕ) → IsTwice entries monitor turn → IsTwiceTurned traces monitor turn
  twice_turned monitor turn t =
      let g = entered.twice monitor turn t in
      record { one = g.one; other = g.other; differ = g.differ; one_enters = g.one_gives; other_enters = g.other_gives }

  turned_twice : (monitor turn : ℕ) → IsTwiceTurned traces monitor turn → IsTwice entries monitor turn
  turned_twice monitor turn t =
      entered.once monitor turn (record { one = t.one; other = t.other; differ = t.differ; one_value = tt; one_gives = t.one_enters; other_value = tt; other_gives = t.other_enters })

  -- the least turn that two entries have
  pub first_twice_turned : (monitor turn : ℕ) → NoneBelow traces 3 → IsFirstTwice entries (Some (monitor, turn)) → IsFirstRefusal traces (TwiceTurned monitor turn)
  first_twice_turned monitor turn below found =
      first_of_kind traces (TwiceTurned monitor turn) (twice_turned monitor turn found.0) below least
    where
      least : (other : LinkError) → IsRefused traces other → (rank_of other).0 ≡ 3 → NotAfter monitor turn (rank_of other).1 (rank_of other).2
      least (TwiceTurned monitor' turn') refused same = found.1 monitor' turn' (turned_twice monitor' turn' refused)
      least other refused same = absurd (omega arith)

  pub none_turned_twice : NoneBelow traces 3 → IsFirstTwice entries None → NoneBelow traces 4
  none_turned_twice below none = none_below_next traces 3 below absent
    where
      absent : (other : LinkError) → IsRefused traces other → (rank_of other).0 ≡ 3 → ⊥
      absent (TwiceTurned monitor turn) refused same = none monitor turn (turned_twice monitor turn refused)
      absent other refused same = absurd (omega arith)

  module _ (greatest : List ℕ) (owned : AreOwned entries traces.monitors) (are : AreGreatest entries traces.monitors greatest) where
    turn_gap : (monitor turn : ℕ) → IsGap exits greatest monitor turn → IsTurnGap traces monitor turn
    turn_gap monitor turn gap =
        let top = are.there monitor (omega (arith, gap.owned, are.count)) in
        let s = entered.sound top.0 _ top.1.1 in
        record {
          missing = λ source leaves. let at = left.complete source (record { owner = monitor; number = turn; value = tt }) leaves in gap.missing at.0 (tt, at.1);
          greater = slice_index greatest monitor;
          above = gap.below;
          source = s.0;
          enters = s.1;
        }

    gap_turned : (monitor turn : ℕ) → IsTurnGap traces monitor turn → IsGap exits greatest monitor turn
    gap_turned monitor turn gap =
        let at = entered.complete gap.source (record { owner = monitor; number = gap.greater; value = tt }) gap.enters in
        let inside = owned at.0 monitor gap.greater (tt, at.1) in
        record {
          owned = omega (arith, inside, are.count);
          below = omega (arith, gap.above, are.above at.0 monitor gap.greater (tt, at.1));
          missing = λ i there. let s = left.sound i _ there.1 in gap.missing s.0 s.1;
        }

    -- the least turn that was not left
    pub first_turn_gap : (monitor turn : ℕ) → NoneBelow traces 4 → IsFirstGap exits greatest (Some (monitor, turn)) → IsFirstRefusal traces (TurnGap monitor turn)
    first_turn_gap monitor turn below found =
        first_of_kind traces (TurnGap monitor turn) (turn_gap monitor turn found.0) below least
      where
        least : (other : LinkError) → IsRefused traces other → (rank_of other).0 ≡ 4 → NotAfter monitor turn (rank_of other).1 (rank_of other).2
        least (TurnGap monitor' turn') refused same = found.1 monitor' turn' (gap_turned monitor' turn' refused)
        least other refused same = absurd (omega arith)

    pub no_turn_gap : NoneBelow traces 4 → IsFirstGap exits greatest None → NoneBelow traces 5
    no_turn_gap below none = none_below_next traces 4 below absent
      where
        absent : (other : LinkError) → IsRefused traces other → (rank_of other).0 ≡ 4 → ⊥
        absent (TurnGap monitor turn) refused same = none monitor turn (gap_turned monitor turn refused)
        absent other refused same = absurd (omega arith)

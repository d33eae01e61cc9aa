-- The turns of monitors at their places, event by event.
use Rattle.std.proofs.Common.{◌≡◌, ◌∙◌, ℕ, ◌+◌, ◌<◌, Bool, true, inl, inr, List, length, set, refl, sym, arith}
use Rattle.std.specs.Prelude.{Option, Some, None, slice_index}
use Rattle.std.proofs.lemmas.Bool.{cases_lt}
use Rattle.interleavings.specs.declared.event.Event.{Event}
use Rattle.interleavings.specs.declared.event.Event.TheVariants.{Read, Write, Update, Enter, Exit}
use Rattle.interleavings.specs.declared.traces.Place.{Place}
use Rattle.interleavings.specs.Events.{entered_by, left_by}
use Rattle.interleavings.specs.TraceLists.{TraceLists, IsInRange, events_of}
use Rattle.linkage.specs.declared.link_error.LinkError.{LinkError}
use Rattle.linkage.specs.declared.link_error.LinkError.TheVariants.{TwiceTurned, TurnGap}
use Rattle.linkage.specs.declared.numbered.Numbered.{Numbered}
use Rattle.linkage.specs.declared.spans.Spans.{Spans}
use Rattle.linkage.specs.declared.turn_marks.TurnMarks.{TurnMarks}
use Rattle.linkage.specs.AllOf.{IsGivenTwice, StartsGiven, TurnZero}
use Rattle.linkage.specs.Checking.{NoneBelow}
use Rattle.linkage.specs.GatherShows.{EntryGiven, ExitGiven, UpTo, place_at}
use Rattle.linkage.specs.Refusals.{IsRefused, rank_of}
use Rattle.linkage.specs.Sources.{event_at}
use Rattle.linkage.specs.Spans.{AreMarks, AreTops, HasPlace, place_of}
use Rattle.linkage.specs.Turns.{AreBelowLeft, AreTurnSpans, AreTurnsMarked, IsMarked, IsTurnPlaced}
use Rattle.linkage.proofs.AllOfLists.{start_more}
use Rattle.linkage.proofs.Frontier.{gives_some, nothing_first, same_numbered}
use Rattle.linkage.proofs.Growing.{twice_kept}
use Rattle.linkage.proofs.Onward.{same_entries, same_exits, more_entries, more_exits, next_entries, next_exits, all_entries, all_exits, start_entries, start_exits}
use Rattle.linkage.proofs.Placed.{marks_same, marks_more, marks_beyond, single_more, true_not_false}
use Rattle.linkage.proofs.RefusalOrder.{none_below_next}

module _ (traces : TraceLists) (spans : Spans) (are : AreTurnSpans traces spans) where
  -- each turn that is entered has a place
  pub entry_place : (source : Option Place) (item : Numbered (Unit {0})) → EntryGiven traces source item → HasPlace spans item.owner item.number
  entry_place source item gives = (omega (arith, are.tops.count, are.tops.owned source item gives), are.tops.above source item gives)

  -- the place of a monitor's turn 0
  pub first_place : (monitor : ℕ) → monitor < traces.monitors → HasPlace spans monitor 0
  first_place monitor own = (omega (arith, are.tops.count), omega arith)

  -- turn 0 of one monitor more
  pub marked_start : (monitor : ℕ) (marks : List Bool) → monitor < traces.monitors → AreMarks (StartsGiven TurnZero monitor) spans marks → AreMarks (StartsGiven TurnZero (monitor + 1)) spans (set marks (place_of spans monitor 0) true)
  marked_start monitor marks own marked =
      let x : Numbered (Unit {0}) = record { owner = monitor; number = 0; value = tt } in
      marks_more (StartsGiven TurnZero monitor) (StartsGiven TurnZero (monitor + 1)) spans marks marked None x
      (start_more TurnZero monitor x refl refl (λ item none same. same_numbered item x same none refl)) are.shape (first_place monitor own)

  -- before the first event
  pub marked_starts : (monitors : ℕ) (marks : TurnMarks) → monitors ≡ traces.monitors → AreMarks (StartsGiven TurnZero monitors) spans marks.entered.items → AreMarks (StartsGiven TurnZero monitors) spans marks.left.items → AreTurnsMarked traces (place_at 0 0) spans marks
  marked_starts monitors marks is entered left = record {
    entered = marks_same _ _ spans marks.entered.items entered (start_entries traces monitors is);
    left = marks_same _ _ spans marks.left.items left (start_exits traces monitors is);
    single = λ monitor turn twice. twice.differ (from_start twice.one _ twice.one_gives ∙ sym (from_start twice.other _ twice.other_gives));
  }
    where
      from_start : (source : Option Place) (item : Numbered (Unit {0})) → UpTo (place_at 0 0) (EntryGiven traces) source item → source ≡ None
      from_start None item gives = refl
      from_start (Some place) item gives = absurd (nothing_first place gives.1)

  module _ (t i : ℕ) where
    -- the turn of an event has a place, if it is entered
    pub turn_place : (event : Event) → event_at traces (place_at t i) ≡ Some event → IsInRange traces event → IsTurnPlaced spans event
    turn_place (Read cell value bound) there range = tt
    turn_place (Write cell value number) there range = tt
    turn_place (Update cell before after number) there range = tt
    turn_place (Enter monitor turn) there range =
        entry_place (Some (place_at t i)) (record { owner = monitor; number = turn; value = tt }) (gives_some traces (place_at t i) (Enter monitor turn) there entered_by _ refl)
    turn_place (Exit monitor turn) there range = omega (arith, range, are.tops.count)

    -- an event of no turn
    passed_by : (event : Event) (old new : TurnMarks) → event_at traces (place_at t i) ≡ Some event → entered_by event ≡ None → left_by event ≡ None → AreTurnsMarked traces (place_at t i) spans old → new ≡ old → AreTurnsMarked traces (place_at t (i + 1)) spans new
    passed_by event old new there no_entry no_exit marked is =
        rw is
        (record {
          entered = marks_same _ _ spans old.entered.items marked.entered (same_entries traces t i event there no_entry);
          left = marks_same _ _ spans old.left.items marked.left (same_exits traces t i event there no_exit);
          single = λ monitor turn twice. marked.single monitor turn (twice_kept _ _ (same_entries traces t i event there no_entry).back monitor turn twice);
        })

    -- past an event
    pub marked_step : (event : Event) (old new : TurnMarks) → event_at traces (place_at t i) ≡ Some event → AreTurnsMarked traces (place_at t i) spans old → IsMarked spans event old new true → IsTurnPlaced spans event → AreTurnsMarked traces (place_at t (i + 1)) spans new
    marked_step (Read cell value bound) old new there marked is placed = passed_by (Read cell value bound) old new there refl refl marked is
    marked_step (Write cell value number) old new there marked is placed = passed_by (Write cell value number) old new there refl refl marked is
    marked_step (Update cell before after number) old new there marked is placed = passed_by (Update cell before after number) old new there refl refl marked is
    marked_step (Enter monitor turn) old new there marked is placed =
        let x : Numbered (Unit {0}) = record { owner = monitor; number = turn; value = tt } in
        let more = more_entries traces t i (Enter monitor turn) there x refl in
        record {
          entered = rw is.1 (marks_more _ _ spans old.entered.items marked.entered _ x more are.shape placed);
          left = rw is.2 (marks_same _ _ spans old.left.items marked.left (same_exits traces t i (Enter monitor turn) there refl));
          single = single_more _ _ spans old.entered.items marked.entered _ x more (λ one. true_not_false _ (marked.entered.marked monitor turn placed one) is.0) marked.single;
        }
    marked_step (Exit monitor turn) old new there marked is placed =
        let x : Numbered (Unit {0}) = record { owner = monitor; number = turn; value = tt } in
        let more = more_exits traces t i (Exit monitor turn) there x refl in
        let same = same_entries traces t i (Exit monitor turn) there refl in
        record {
          entered = rw is.2 (marks_same _ _ spans old.entered.items marked.entered same);
          left =
              elim (cases_lt (slice_index spans.greatest.items monitor) turn) [
                | inl above ↦ rw (is.1 above) (marks_beyond _ _ spans old.left.items marked.left _ x more (λ has. omega (arith, has.1, above)))
                | inr within ↦ rw (is.0 within) (marks_more _ _ spans old.left.items marked.left _ x more are.shape (placed, within))
              ];
          single = λ monitor turn twice. marked.single monitor turn (twice_kept _ _ same.back monitor turn twice);
        }

  -- past the last event of a thread
  pub marked_next : (t count : ℕ) (marks : TurnMarks) → count ≡ length (events_of traces t) → AreTurnsMarked traces (place_at t count) spans marks → AreTurnsMarked traces (place_at (t + 1) 0) spans marks
  marked_next t count marks is marked = record {
    entered = marks_same _ _ spans marks.entered.items marked.entered (next_entries traces t count is);
    left = marks_same _ _ spans marks.left.items marked.left (next_exits traces t count is);
    single = λ monitor turn twice. marked.single monitor turn (twice_kept _ _ (next_entries traces t count is).back monitor turn twice);
  }

  -- where each turn below a greater one was left, nothing is wrong with the turns
  pub marked_fit : (threads : ℕ) (marks : TurnMarks) → threads ≡ length traces.events → NoneBelow traces 3 → AreTurnsMarked traces (place_at threads 0) spans marks → AreBelowLeft spans marks.left.items → NoneBelow traces 5
  marked_fit threads marks is none marked below = none_below_next traces 4 (none_below_next traces 3 none no_twice) no_gap
    where
      left : AreMarks (ExitGiven traces) spans marks.left.items
      left = marks_same _ _ spans marks.left.items marked.left (all_exits traces threads is)

      no_twice : (other : LinkError) → IsRefused traces other → (rank_of other).0 ≡ 3 → ⊥
      no_twice (TwiceTurned monitor turn) t same =
          let twice : IsGivenTwice (EntryGiven traces) monitor turn = record { one = t.one; other = t.other; differ = t.differ; one_value = tt; one_gives = t.one_enters; other_value = tt; other_gives = t.other_enters } in
          marked.single monitor turn (twice_kept _ _ (all_entries traces threads is).back monitor turn twice)
      no_twice other refused same = absurd (omega arith)

      no_gap : (other : LinkError) → IsRefused traces other → (rank_of other).0 ≡ 4 → ⊥
      no_gap (TurnGap monitor turn) gap same =
          let has = entry_place gap.source (record { owner = monitor; number = gap.greater; value = tt }) gap.enters in
          let one = left.meant monitor turn (has.0, omega (arith, has.1, gap.above)) (below monitor turn has.0 (omega (arith, has.1, gap.above))) in
          gap.missing one.source one.gives
      no_gap other refused same = absurd (omega arith)

-- where there is no monitor, nothing is wrong with the turns
pub no_monitor : (traces : TraceLists) (greatest : List ℕ) → AreTops (EntryGiven traces) traces.monitors greatest → traces.monitors ≡ 0 → NoneBelow traces 3 → NoneBelow traces 5
no_monitor traces greatest tops is none = none_below_next traces 4 (none_below_next traces 3 none no_twice) no_gap
  where
    nobody : (source : Option Place) (item : Numbered (Unit {0})) → EntryGiven traces source item → ⊥
    nobody source item gives = omega (arith, tops.owned source item gives, is)

    no_twice : (other : LinkError) → IsRefused traces other → (rank_of other).0 ≡ 3 → ⊥
    no_twice (TwiceTurned monitor turn) t same = nobody t.one (record { owner = monitor; number = turn; value = tt }) t.one_enters
    no_twice other refused same = absurd (omega arith)

    no_gap : (other : LinkError) → IsRefused traces other → (rank_of other).0 ≡ 4 → ⊥
    no_gap (TurnGap monitor turn) gap same = nobody gap.source (record { owner = monitor; number = gap.greater; value = tt }) gap.enters
    no_gap other refused same = absurd (omega arith)

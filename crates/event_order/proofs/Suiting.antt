-- The next event of an extension suits what happened before it.
use Rattle.std.proofs.Common.{◌≡◌, ℕ, ◌+◌, ◌-◌, ◌<◌, ◌≤◌, Bool, true, false, Option, Some, None, refl, sym, ◌∙◌, ap, subst, inl, inr, arith}
use Rattle.std.proofs.lemmas.Bool.{true≢false, cases_eq, cases_lt}
use Rattle.interleavings.specs.declared.event.Event.TheVariants as events
use Rattle.interleavings.specs.declared.traces.Place.{Place}
use Rattle.interleavings.specs.Events.{WriteOf, TurnOf}
use Rattle.interleavings.specs.TraceLists.{TraceLists}
use Rattle.linkage.specs.declared.link_error.LinkError.TheVariants.{WriteGap, TurnGap, UpdateMismatch}
use Rattle.linkage.specs.Links.{IsLink, link_at}
use Rattle.linkage.specs.Sources.{IsExitAt, IsWriteAt, Stored, event_at}
use Rattle.event_order.specs.DirectOrder.{Direct, LinkRows, WritesAt, ReadsAt, EntersAt, LeavesAt}
use Rattle.event_order.specs.DirectOrder as direct
use Rattle.event_order.proofs.Standing as holds
use Rattle.event_order.proofs.Fits.{World}
use Rattle.event_order.proofs.Standing.{Holding, IsSound, IsStanding, begun_at, left_at, stored_there, write_at}
use Rattle.event_order.proofs.Unique.{one_enter, one_value}

module _ (traces : TraceLists) (links : LinkRows) (sound : IsSound traces links) (done : ℕ → ℕ) (stands : Place → Bool) (w : World) (standing : IsStanding traces links done stands w) where
  -- an exit that stands has an enter that stands
  pub begun_stands : (other : Place) (turn : TurnOf) → LeavesAt traces other turn → stands other ≡ true → (begun : Place) × EntersAt traces begun turn × (stands begun ≡ true)
  begun_stands other turn leaves up =
      let enter = sound.exits other turn leaves in
      let ended : other.place < done other.thread = standing.front other up in
      let before : enter.begun.place < other.place = enter.before in
      let same : done enter.begun.thread ≡ done other.thread = ap done enter.thread in
      (enter.begun, enter.enters, standing.fronts enter.begun (omega arith))

  module _ (at : Place) (down : stands at ≡ false) (place_is : at.place ≡ done at.thread) (after : (before : Place) → Direct traces links before at → stands before ≡ true) where
    -- what stands is not this event
    pub not_this : stands at ≡ true → ⊥
    not_this up = true≢false (sym up ∙ down)

    -- no write numbered one below this one is above the count
    below_written : (write : WriteOf) → WritesAt traces at write → (number : ℕ) → write.number ≡ number + 1 → w.counts.writes write.cell < number → (value : ℕ) (source : Option Place) → IsWriteAt traces source write.cell number value → ⊥
    below_written write is number next above value None made = let zero_is : number ≡ 0 = made.0 in omega arith
    below_written write is number next above value (Some other) made =
        let up = after other (direct.next_write (record { cell = write.cell; number = number; value = value }) write made is refl next) in
        let small : number ≤ w.counts.writes write.cell = standing.writes.stand other (record { cell = write.cell; number = number; value = value }) made up in
        omega arith

    -- a write has the next number of its cell
    pub write_suits : (write : WriteOf) → WritesAt traces at write → write.number ≡ w.counts.writes write.cell + 1
    write_suits write is = elim (cases_lt (w.counts.writes write.cell) write.number) [
      | inr old ↦ absurd (not_this (standing.writes.below at write is old))
      | inl new ↦ elim (cases_eq write.number (w.counts.writes write.cell + 1)) [
        | inl same ↦ same
        | inr apart ↦ absurd (sound.fits (WriteGap write.cell (write.number - 1)) (record {
          missing = λ value stored. below_written write is (write.number - 1) (omega arith) (omega arith) value stored.0 stored.1;
          greater = write.number;
          above = omega arith;
          greater_value = write.value;
          there = (Some at, is);
        }))
      ]
    ]

    -- the write to which a read is linked stands
    linked_stands : (cell value number : ℕ) → ReadsAt traces at (record { cell = cell; value = value }) → link_at links at ≡ Some number → (source : Option Place) → IsWriteAt traces source cell number value → number ≤ w.counts.writes cell
    linked_stands cell value number is linked None made = let zero_is : number ≡ 0 = made.0 in omega arith
    linked_stands cell value number is linked (Some other) made =
        standing.writes.stand other (record { cell = cell; number = number; value = value }) made (after other (direct.read_of_write (record { cell = cell; number = number; value = value }) (record { cell = cell; value = value }) made is refl linked))

    -- and the write after it does not
    later_stands : (cell value number : ℕ) → ReadsAt traces at (record { cell = cell; value = value }) → link_at links at ≡ Some number → number < w.counts.writes cell → (stored : ℕ) (source : Option Place) → IsWriteAt traces source cell (number + 1) stored → ⊥
    later_stands cell value number is linked small stored None made = let zero_is : number + 1 ≡ 0 = made.0 in omega arith
    later_stands cell value number is linked small stored (Some other) made =
        not_this (standing.closed at other (direct.write_after_read (record { cell = cell; value = value }) number (record { cell = cell; number = number + 1; value = stored }) is linked made refl refl) (standing.writes.below other (record { cell = cell; number = number + 1; value = stored }) made (omega arith)))

    -- a read that is linked meets the cell's value
    pub read_suits : (cell value bound number : ℕ) → ReadsAt traces at (record { cell = cell; value = value }) → link_at links at ≡ Some number → IsLink traces cell value bound number → w.cells cell ≡ value
    read_suits cell value bound number is linked link =
        let there = stored_there traces sound.range cell number value link.equal in
        let last = standing.cells cell there in
        let small : number ≤ w.counts.writes cell = linked_stands cell value number is linked link.equal.0 link.equal.1 in
        elim (cases_eq number (w.counts.writes cell)) [
          | inl same ↦ sym (one_value traces sound.fits cell number value (w.cells cell) link.equal (subst (λ (n : ℕ). Stored traces cell n (w.cells cell)) (sym same) last))
          | inr apart ↦ elim (cases_eq (number + 1) (w.counts.writes cell)) [
            | inl next ↦ absurd (
                let own = subst (λ (n : ℕ). Stored traces cell n (w.cells cell)) (sym next) last in
                later_stands cell value number is linked (omega arith) (w.cells cell) own.0 own.1)
            | inr above ↦ absurd (sound.fits (WriteGap cell (number + 1)) (record {
              missing = λ stored source. later_stands cell value number is linked (omega arith) stored source.0 source.1;
              greater = w.counts.writes cell;
              above = omega arith;
              greater_value = w.cells cell;
              there = last;
            }))
          ]
        ]

    -- an update meets the cell's value
    pub update_suits : (cell old new number : ℕ) → event_at traces at ≡ Some (events.Update cell old new number) → w.cells cell ≡ old
    update_suits cell old new number is = elim (cases_eq (w.cells cell) old) [
      | inl same ↦ same
      | inr apart ↦ absurd (
          let written : WritesAt traces at (record { cell = cell; number = number; value = new }) = rw is refl in
          let read : ReadsAt traces at (record { cell = cell; value = old }) = rw is refl in
          let next : number ≡ w.counts.writes cell + 1 = write_suits (record { cell = cell; number = number; value = new }) written in
          sound.fits (UpdateMismatch at) (record {
            cell = cell;
            old = old;
            number = number;
            updates = record { met = read; new = new; made = written };
            none = λ below is_next stored. apart (
                let same : below ≡ w.counts.writes cell = omega arith in
                let there = stored_there traces sound.range cell below old stored in
                one_value traces sound.fits cell (w.counts.writes cell) (w.cells cell) old (standing.cells cell there) (subst (λ (n : ℕ). Stored traces cell n old) same stored));
          }))
    ]

    -- no exit of a turn one below this enter's is above the count
    below_left : (begun : TurnOf) → EntersAt traces at begun → (turn : ℕ) → begun.turn ≡ turn + 1 → w.counts.enters begun.monitor < turn → (source : Option Place) → IsExitAt traces source begun.monitor turn → ⊥
    below_left begun is turn next above None made = let zero_is : turn ≡ 0 = made.0 in omega arith
    below_left begun is turn next above (Some other) made =
        let up = after other (direct.next_turn (record { monitor = begun.monitor; turn = turn }) begun made is refl next) in
        let enter = begun_stands other (record { monitor = begun.monitor; turn = turn }) made up in
        let small : turn ≤ w.counts.enters begun.monitor = standing.enters.stand enter.0 (record { monitor = begun.monitor; turn = turn }) enter.1 enter.2 in
        omega arith

    -- an enter has the next turn of its monitor
    pub turn_suits : (begun : TurnOf) → EntersAt traces at begun → begun.turn ≡ w.counts.enters begun.monitor + 1
    turn_suits begun is = elim (cases_lt (w.counts.enters begun.monitor) begun.turn) [
      | inr old ↦ absurd (not_this (standing.enters.below at begun is old))
      | inl new ↦ elim (cases_eq begun.turn (w.counts.enters begun.monitor + 1)) [
        | inl same ↦ same
        | inr apart ↦ absurd (sound.fits (TurnGap begun.monitor (begun.turn - 1)) (record {
          missing = below_left begun is (begun.turn - 1) (omega arith) (omega arith);
          greater = begun.turn;
          above = omega arith;
          source = Some at;
          enters = is;
        }))
      ]
    ]

    -- the last turn before this enter has ended
    last_left : (begun : TurnOf) → EntersAt traces at begun → (holder : Place) → EntersAt traces holder (record { monitor = begun.monitor; turn = w.counts.enters begun.monitor }) → ((other : Place) → LeavesAt traces other (record { monitor = begun.monitor; turn = w.counts.enters begun.monitor }) → stands other ≡ true → ⊥) → (source : Option Place) → IsExitAt traces source begun.monitor (w.counts.enters begun.monitor) → ⊥
    last_left begun is holder enters none None made =
        let same : None ≡ Some holder = one_enter traces sound.fits None (Some holder) begun.monitor (w.counts.enters begun.monitor) made enters in
        absurd cc
    last_left begun is holder enters none (Some other) made =
        none other made (after other (direct.next_turn (record { monitor = begun.monitor; turn = w.counts.enters begun.monitor }) begun made is refl (turn_suits begun is)))

    -- nobody holds the monitor that is entered
    pub enter_suits : (begun : TurnOf) → EntersAt traces at begun → w.holders begun.monitor ≡ None
    enter_suits begun is = elim (standing.holding begun.monitor) [
      | holds.never zero_is free ↦ free
      | holds.left other leaves up free ↦ free
      | holds.held holder enters none ↦ absurd (sound.fits (TurnGap begun.monitor (w.counts.enters begun.monitor)) (record {
        missing = last_left begun is holder enters none;
        greater = begun.turn;
        above = let next : begun.turn ≡ w.counts.enters begun.monitor + 1 = turn_suits begun is in omega arith;
        source = Some at;
        enters = is;
      }))
    ]

    -- the turn after the one that this event ends has not begun
    later_begun : (left : TurnOf) → LeavesAt traces at left → (other : Place) → EntersAt traces other (record { monitor = left.monitor; turn = left.turn + 1 }) → left.turn < w.counts.enters left.monitor → ⊥
    later_begun left is other enters small =
        not_this (standing.closed at other (direct.next_turn left (record { monitor = left.monitor; turn = left.turn + 1 }) is enters refl refl) (standing.enters.below other (record { monitor = left.monitor; turn = left.turn + 1 }) enters (omega arith)))

    -- nor has it ended
    later_left : (left : TurnOf) → LeavesAt traces at left → left.turn < w.counts.enters left.monitor → (source : Option Place) → IsExitAt traces source left.monitor (left.turn + 1) → ⊥
    later_left left is small None made = let zero_is : left.turn + 1 ≡ 0 = made.0 in omega arith
    later_left left is small (Some other) made =
        let enter = sound.exits other (record { monitor = left.monitor; turn = left.turn + 1 }) made in
        later_begun left is enter.begun enter.enters small

    -- the last turn of a monitor that was entered has begun somewhere
    last_begun : (monitor : ℕ) → 0 < w.counts.enters monitor → (other : Place) × EntersAt traces other (record { monitor = monitor; turn = w.counts.enters monitor })
    last_begun monitor some = elim (standing.holding monitor) [
      | holds.never zero_is free ↦ absurd (omega arith)
      | holds.left other leaves up free ↦ (let enter = begun_stands other (record { monitor = monitor; turn = w.counts.enters monitor }) leaves up in (enter.0, enter.1))
      | holds.held holder enters none ↦ (holder, enters)
    ]

    -- an exit ends the last turn of its monitor
    pub exit_suits : (left : TurnOf) → LeavesAt traces at left → left.turn ≡ w.counts.enters left.monitor
    exit_suits left is =
        let enter = sound.exits at left is in
        let before : enter.begun.place < at.place = enter.before in
        let same : done enter.begun.thread ≡ done at.thread = ap done enter.thread in
        let small : left.turn ≤ w.counts.enters left.monitor = standing.enters.stand enter.begun left enter.enters (standing.fronts enter.begun (omega arith)) in
        elim (cases_eq left.turn (w.counts.enters left.monitor)) [
          | inl equal ↦ equal
          | inr apart ↦ absurd (
              let last = last_begun left.monitor (omega arith) in
              elim (cases_eq (left.turn + 1) (w.counts.enters left.monitor)) [
                | inl next ↦ later_begun left is last.0 (subst (λ (n : ℕ). EntersAt traces last.0 (record { monitor = left.monitor; turn = n })) (sym next) last.1) (omega arith)
                | inr above ↦ sound.fits (TurnGap left.monitor (left.turn + 1)) (record {
                  missing = later_left left is (omega arith);
                  greater = w.counts.enters left.monitor;
                  above = omega arith;
                  source = Some last.0;
                  enters = last.1;
                })
              ])
        ]

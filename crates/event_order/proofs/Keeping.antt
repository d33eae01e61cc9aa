-- What stands after the next event of an extension, and what has happened by then.
use Rattle.std.proofs.Common.{◌≡◌, ℕ, ◌+◌, ◌<◌, ◌≤◌, Bool, true, false, Option, Some, None, length, refl, sym, ◌∙◌, ap, subst, inl, inr, arith}
use Rattle.std.proofs.lemmas.Bool.{cases_eq, cases_lt}
use Rattle.std.proofs.lemmas.Option.{slice_get_within}
use Rattle.std.specs.Prelude.{unwrap_or}
use Rattle.std.specs.Option.{option_and_then}
use Rattle.sc_machine.specs.Machine.{put}
use Rattle.interleavings.specs.declared.event.Event.{Event}
use Rattle.interleavings.specs.declared.event.Event.TheVariants as events
use Rattle.interleavings.specs.declared.traces.Place.{Place}
use Rattle.interleavings.specs.Events.{WriteOf, TurnOf, write_of, entered_by, left_by}
use Rattle.interleavings.specs.TraceLists.{TraceLists, events_of}
use Rattle.linkage.specs.Sources.{Stored, event_at}
use Rattle.event_order.specs.DirectOrder.{Direct, LinkRows, EntersAt, LeavesAt}
use Rattle.event_order.specs.Extensions.{standing_too}
use Rattle.event_order.proofs.Counted.{Counted, counted-still, counted-next}
use Rattle.event_order.proofs.Fits.{World, cells_by, writes_by, enters_by, held_by, world_after}
use Rattle.event_order.proofs.Places.{put-same, put-other, put-grows, two_parts, stood, stands_still, stands_now}
use Rattle.event_order.proofs.Standing.{Holding, IsSound, IsStanding, begun_at, left_at, write_at}
use Rattle.event_order.proofs.Standing as holds
use Rattle.event_order.proofs.Suiting.{begun_stands, exit_suits, not_this, turn_suits, write_suits}
use Rattle.event_order.proofs.Unique.{one_begun, one_written}

-- an event does not both begin and end a turn
begins_or_ends : (event : Event) (begun left : TurnOf) → entered_by event ≡ Some begun → left_by event ≡ Some left → ⊥
begins_or_ends (events.Enter monitor turn) begun left enters leaves = absurd cc
begins_or_ends (events.Read cell value bound) begun left enters leaves = absurd cc
begins_or_ends (events.Write cell value number) begun left enters leaves = absurd cc
begins_or_ends (events.Update cell old new number) begun left enters leaves = absurd cc
begins_or_ends (events.Exit monitor turn) begun left enters leaves = absurd cc

-- the same of the event at a place
begins_or_ends_at : (found : Option Event) (begun left : TurnOf) → option_and_then entered_by found ≡ Some begun → option_and_then left_by found ≡ Some left → ⊥
begins_or_ends_at None begun left enters leaves = absurd cc
begins_or_ends_at (Some event) begun left enters leaves = begins_or_ends event begun left enters leaves

-- where an event ends no turn of a monitor, the monitor stands as it did
holding-still : (traces : TraceLists) (stands : Place → Bool) (at : Place) (monitor turn : ℕ) (holder : Option ℕ) → (LeavesAt traces at (record { monitor = monitor; turn = turn }) → ⊥) → Holding traces stands monitor turn holder → Holding traces (standing_too at stands) monitor turn holder
holding-still traces stands at monitor turn holder keeps (holds.never zero_is free) = holds.never zero_is free
holding-still traces stands at monitor turn holder keeps (holds.left other leaves up free) = holds.left other leaves (stands_still at other stands up) free
holding-still traces stands at monitor turn holder keeps (holds.held other enters none) =
    holds.held other enters (λ last leaves up. elim (stood at last stands up) [
      | inl same ↦ keeps (subst (λ (p : Place). LeavesAt traces p (record { monitor = monitor; turn = turn })) (sym same) leaves)
      | inr before ↦ none last leaves before
    ])

-- the turn that is there
abbrev turn_in : Option TurnOf → TurnOf
turn_in found = unwrap_or found (record { monitor = 0; turn = 0 })

-- the turns that one place ends are of one monitor
other_monitor : {found : Option TurnOf} (monitor turn : ℕ) (left : TurnOf) → found ≡ Some (record { monitor = monitor; turn = turn }) → found ≡ Some left → monitor ≡ left.monitor
other_monitor monitor turn left is leaves = ap (λ (found : Option TurnOf). (turn_in found).monitor) (sym is ∙ leaves)

module _ (traces : TraceLists) (links : LinkRows) (sound : IsSound traces links) (done : ℕ → ℕ) (stands : Place → Bool) (w : World) (standing : IsStanding traces links done stands w) (at : Place) (down : stands at ≡ false) (place_is : at.place ≡ done at.thread) (after : (before : Place) → Direct traces links before at → stands before ≡ true) where
  -- the writes that stand are counted
  writes_kept : (found : Option WriteOf) → write_at traces at ≡ found → Counted (λ (write : WriteOf). write.cell) (λ (write : WriteOf). write.number) (write_at traces) (standing_too at stands) (writes_by found w.counts.writes)
  writes_kept None is = counted-still (λ (write : WriteOf). write.cell) (λ (write : WriteOf). write.number) (write_at traces) stands w.counts.writes at is standing.writes
  writes_kept (Some write) is = counted-next (λ (other : WriteOf). other.cell) (λ (other : WriteOf). other.number) (write_at traces) stands w.counts.writes at write (one_written traces sound.fits) is (write_suits traces links sound done stands w standing at down place_is after write is) standing.writes

  -- each cell has the value of its last write
  cells_kept : (found : Option WriteOf) → write_at traces at ≡ found → (cell : ℕ) → cell < length traces.starts → Stored traces cell (writes_by found w.counts.writes cell) (cells_by found w.cells cell)
  cells_kept None is cell there = standing.cells cell there
  cells_kept (Some write) is cell there = elim (cases_eq cell write.cell) [
    | inr apart ↦ subst (λ (n : ℕ). Stored traces cell n (put w.cells write.cell write.value cell)) (sym (put-other w.counts.writes write.cell cell (w.counts.writes write.cell + 1) apart)) (subst (λ (v : ℕ). Stored traces cell (w.counts.writes cell) v) (sym (put-other w.cells write.cell cell write.value apart)) (standing.cells cell there))
    | inl same ↦
        let number_is : put w.counts.writes write.cell (w.counts.writes write.cell + 1) cell ≡ write.number = ap (put w.counts.writes write.cell (w.counts.writes write.cell + 1)) same ∙ (put-same w.counts.writes write.cell (w.counts.writes write.cell + 1) ∙ sym (write_suits traces links sound done stands w standing at down place_is after write is)) in
        let value_is : put w.cells write.cell write.value cell ≡ write.value = ap (put w.cells write.cell write.value) same ∙ put-same w.cells write.cell write.value in
        let own : Stored traces cell write.number write.value = (Some at, is ∙ ap (λ c. Some (record { cell = c; number = write.number; value = write.value })) (sym same)) in
        subst (λ (n : ℕ). Stored traces cell n (put w.cells write.cell write.value cell)) (sym number_is) (subst (λ (v : ℕ). Stored traces cell write.number v) (sym value_is) own)
  ]

  -- the enters that stand are counted
  enters_kept : (found : Option TurnOf) → begun_at traces at ≡ found → Counted (λ (begun : TurnOf). begun.monitor) (λ (begun : TurnOf). begun.turn) (begun_at traces) (standing_too at stands) (enters_by found w.counts.enters)
  enters_kept None is = counted-still (λ (begun : TurnOf). begun.monitor) (λ (begun : TurnOf). begun.turn) (begun_at traces) stands w.counts.enters at is standing.enters
  enters_kept (Some begun) is = counted-next (λ (other : TurnOf). other.monitor) (λ (other : TurnOf). other.turn) (begun_at traces) stands w.counts.enters at begun (one_begun traces sound.fits) is (turn_suits traces links sound done stands w standing at down place_is after begun is) standing.enters

  -- a monitor whose turn this event begins is held
  held_now : (begun : TurnOf) → EntersAt traces at begun → (holder : Option ℕ) → Holding traces (standing_too at stands) begun.monitor begun.turn holder
  held_now begun is holder = holds.held at is (λ last leaves up. elim (stood at last stands up) [
    | inl same ↦ begins_or_ends_at (event_at traces at) begun begun is (subst (λ (p : Place). LeavesAt traces p begun) (sym same) leaves)
    | inr before ↦
        let enter = begun_stands traces links sound done stands w standing last begun leaves before in
        let same : at ≡ enter.0 = one_begun traces sound.fits at enter.0 begun begun is enter.1 refl refl in
        not_this traces links sound done stands w standing at down place_is after (subst (λ (p : Place). stands p ≡ true) (sym same) enter.2)
  ])

  -- each monitor stands as its last turn does
  holding_kept : (begun left : Option TurnOf) → begun_at traces at ≡ begun → left_at traces at ≡ left → (monitor : ℕ) → Holding traces (standing_too at stands) monitor (enters_by begun w.counts.enters monitor) (held_by begun (Some at.thread) (held_by left None w.holders) monitor)
  holding_kept None None enters leaves monitor = holding-still traces stands at monitor (w.counts.enters monitor) (w.holders monitor) (λ is. absurd (let wrong : None ≡ Some (record { monitor = monitor; turn = w.counts.enters monitor }) = sym leaves ∙ is in cc)) (standing.holding monitor)
  holding_kept (Some begun) (Some left) enters leaves monitor = absurd (begins_or_ends_at (event_at traces at) begun left enters leaves)
  holding_kept (Some begun) None enters leaves monitor = elim (cases_eq monitor begun.monitor) [
    | inl same ↦
        let turn_is : put w.counts.enters begun.monitor (w.counts.enters begun.monitor + 1) monitor ≡ begun.turn = ap (put w.counts.enters begun.monitor (w.counts.enters begun.monitor + 1)) same ∙ (put-same w.counts.enters begun.monitor (w.counts.enters begun.monitor + 1) ∙ sym (turn_suits traces links sound done stands w standing at down place_is after begun enters)) in
        let holder = put w.holders begun.monitor (Some at.thread) monitor in
        subst (λ (n : ℕ). Holding traces (standing_too at stands) monitor n holder) (sym turn_is) (subst (λ (m : ℕ). Holding traces (standing_too at stands) m begun.turn holder) (sym same) (held_now begun enters holder))
    | inr apart ↦
        let turn_is : put w.counts.enters begun.monitor (w.counts.enters begun.monitor + 1) monitor ≡ w.counts.enters monitor = put-other w.counts.enters begun.monitor monitor (w.counts.enters begun.monitor + 1) apart in
        let holder_is : put w.holders begun.monitor (Some at.thread) monitor ≡ w.holders monitor = put-other w.holders begun.monitor monitor (Some at.thread) apart in
        subst (λ (n : ℕ). Holding traces (standing_too at stands) monitor n (put w.holders begun.monitor (Some at.thread) monitor)) (sym turn_is) (subst (λ (h : Option ℕ). Holding traces (standing_too at stands) monitor (w.counts.enters monitor) h) (sym holder_is) (holding-still traces stands at monitor (w.counts.enters monitor) (w.holders monitor) (λ is. absurd (let wrong : None ≡ Some (record { monitor = monitor; turn = w.counts.enters monitor }) = sym leaves ∙ is in cc)) (standing.holding monitor)))
  ]
  holding_kept None (Some left) enters leaves monitor = elim (cases_eq monitor left.monitor) [
    | inl same ↦
        let holder_is : put w.holders left.monitor None monitor ≡ None = ap (put w.holders left.monitor None) same ∙ put-same w.holders left.monitor None in
        let turn_is : left.turn ≡ w.counts.enters monitor = exit_suits traces links sound done stands w standing at down place_is after left leaves ∙ ap w.counts.enters (sym same) in
        holds.left at (leaves ∙ (ap (λ m. Some (record { monitor = m; turn = left.turn })) (sym same) ∙ ap (λ n. Some (record { monitor = monitor; turn = n })) turn_is)) (stands_now at at stands refl) holder_is
    | inr apart ↦
        let holder_is : put w.holders left.monitor None monitor ≡ w.holders monitor = put-other w.holders left.monitor monitor None apart in
        subst (λ (h : Option ℕ). Holding traces (standing_too at stands) monitor (w.counts.enters monitor) h) (sym holder_is) (holding-still traces stands at monitor (w.counts.enters monitor) (w.holders monitor) (λ is. apart (other_monitor monitor (w.counts.enters monitor) left is leaves)) (standing.holding monitor))
  ]

  -- what stands is still the first events of each thread
  fronts_kept : (other : Place) → other.place < put done at.thread (done at.thread + 1) other.thread → standing_too at stands other ≡ true
  fronts_kept other small = elim (cases_eq other.thread at.thread) [
    | inr apart ↦ stands_still at other stands (standing.fronts other (let same : put done at.thread (done at.thread + 1) other.thread ≡ done other.thread = put-other done at.thread other.thread (done at.thread + 1) apart in omega arith))
    | inl same ↦
        let count : put done at.thread (done at.thread + 1) other.thread ≡ done at.thread + 1 = ap (put done at.thread (done at.thread + 1)) same ∙ put-same done at.thread (done at.thread + 1) in
        let rows : done other.thread ≡ done at.thread = ap done same in
        elim (cases_lt other.place (done other.thread)) [
          | inl old ↦ stands_still at other stands (standing.fronts other old)
          | inr new ↦ stands_now at other stands (two_parts at other (sym same) (omega arith))
        ]
  ]

  -- and no others stand
  front_kept : (other : Place) → standing_too at stands other ≡ true → other.place < put done at.thread (done at.thread + 1) other.thread
  front_kept other up = elim (stood at other stands up) [
    | inr before ↦
        let small : other.place < done other.thread = standing.front other before in
        let grows : done other.thread ≤ put done at.thread (done at.thread + 1) other.thread = put-grows done at.thread other.thread in omega arith
    | inl same ↦ subst (λ (p : Place). p.place < put done at.thread (done at.thread + 1) p.thread) same (let count : put done at.thread (done at.thread + 1) at.thread ≡ done at.thread + 1 = put-same done at.thread (done at.thread + 1) in omega arith)
  ]

  -- the next event stands too, with what it does
  pub standing-next : (event : Event) → event_at traces at ≡ Some event → IsStanding traces links (put done at.thread (done at.thread + 1)) (standing_too at stands) (world_after at.thread event w)
  standing-next event is = record {
    front = front_kept;
    fronts = fronts_kept;
    within = λ t. elim (cases_eq t at.thread) [
      | inr apart ↦ let same : put done at.thread (done at.thread + 1) t ≡ done t = put-other done at.thread t (done at.thread + 1) apart in let old : done t ≤ length (events_of traces t) = standing.within t in omega arith
      | inl same ↦
          let count : put done at.thread (done at.thread + 1) t ≡ done at.thread + 1 = ap (put done at.thread (done at.thread + 1)) same ∙ put-same done at.thread (done at.thread + 1) in
          let inside : at.place < length (events_of traces at.thread) = slice_get_within (events_of traces at.thread) at.place event is in
          let rows : length (events_of traces t) ≡ length (events_of traces at.thread) = ap (λ u. length (events_of traces u)) same in
          omega arith
    ];
    closed = λ first second before up. elim (stood at second stands up) [
      | inl same ↦ stands_still at first stands (after first (subst (λ (p : Place). Direct traces links first p) (sym same) before))
      | inr old ↦ stands_still at first stands (standing.closed first second before old)
    ];
    writes = writes_kept (write_of event) (ap (option_and_then write_of) is);
    cells = cells_kept (write_of event) (ap (option_and_then write_of) is);
    enters = enters_kept (entered_by event) (ap (option_and_then entered_by) is);
    holding = holding_kept (entered_by event) (left_by event) (ap (option_and_then entered_by) is) (ap (option_and_then left_by) is);
  }

-- An event is a direct predecessor of another where it comes right before it in its thread, or fills a slot that it needs.
use Rattle.std.proofs.Common.{◌≡◌, ℕ, zero, suc, ◌+◌, ◌*◌, ◌<◌, ◌⊎◌, true, List, Option, Some, None, refl, sym, ◌∙◌, ap, ap₂, subst, inl, inr, arith, add-one}
use Rattle.std.specs.Prelude.{is_some, unwrap_or}
use Rattle.std.specs.Option.{option_and_then, option_map}
use Rattle.std.proofs.lemmas.Option.{slice_get_within, slice_get-get_or}
use Rattle.interleavings.specs.declared.event.Event.{Event}
use Rattle.interleavings.specs.declared.event.Event.TheVariants as events
use Rattle.interleavings.specs.declared.traces.Place.{Place}
use Rattle.interleavings.specs.Events.{ReadOf, TurnOf, WriteOf, entered_by, left_by, read_of, write_of}
use Rattle.interleavings.specs.TraceLists.{TraceLists}
use Rattle.linkage.specs.Links.{link_at}
use Rattle.linkage.specs.Sources.{event_at}
use Rattle.event_order.specs.Backs.{Fills, IsNext}
use Rattle.event_order.specs.Cycles.{Precedes}
use Rattle.event_order.specs.Deeds.{AreDeedsOf, Needs, NeedsAt, deed_at, deed_of, earlier, gives_at, gives_of, needs_of, needs_too_of, size, deeds_of}
use Rattle.event_order.specs.DirectOrder.{Direct, LinkRows, ReadsAt, WritesAt}
use Rattle.event_order.specs.Extensions.{IsPlace}
use Rattle.event_order.specs.declared.deed.Deed.{Deed}
use Rattle.event_order.specs.declared.deed.Deed.TheVariants as deeds
use Rattle.event_order.specs.declared.slot.Slot.{Slot}
use Rattle.event_order.proofs.Unique.{write_in}

-- the read that is there
abbrev read_in : Option ReadOf → ReadOf
read_in found = unwrap_or found (record { cell = 0; value = 0 })

-- the turn that is there
abbrev turn_in : Option TurnOf → TurnOf
turn_in found = unwrap_or found (record { monitor = 0; turn = 0 })

-- the slot of a number in a row
abbrev slot_at : ℕ → ℕ → Slot
slot_at row number = record { row = row; number = number }

-- what an event that may be there is to the order
abbrev deed_with : Option ℕ → Option Event → Option Deed
deed_with link found = option_map (λ event. deed_of event link) found

-- the slot before one that isn't the first
earlier_is : (row number k : ℕ) → number ≡ k + 1 → earlier row number ≡ Some (slot_at row k)
earlier_is row number k is = let next : number ≡ suc k = is ∙ add-one k in ap (earlier row) next

-- and the other way round
earlier_from : (row number : ℕ) (slot : Slot) → earlier row number ≡ Some slot → (slot.row ≡ row) × (number ≡ slot.number + 1)
earlier_from row zero slot is = absurd cc
earlier_from row (suc k) slot is =
    let same : slot_at row k ≡ slot = cc in
    (sym (ap (λ (s : Slot). s.row) same), (let number : k ≡ slot.number = ap (λ (s : Slot). s.number) same in omega arith))

-- a write fills the slot of its number
write_gives : (found : Option Event) (link : Option ℕ) (write : WriteOf) → option_and_then write_of found ≡ Some write → option_and_then gives_of (deed_with link found) ≡ Some (slot_at (3 * write.cell) write.number)
write_gives (Some (events.Write cell value number)) link write is = ap (λ (o : Option WriteOf). Some (slot_at (3 * (write_in o).cell) (write_in o).number)) is
write_gives (Some (events.Update cell old new number)) link write is = ap (λ (o : Option WriteOf). Some (slot_at (3 * (write_in o).cell) (write_in o).number)) is
write_gives found link write is = absurd cc

-- an exit that of its turn
exit_gives : (found : Option Event) (link : Option ℕ) (turn : TurnOf) → option_and_then left_by found ≡ Some turn → option_and_then gives_of (deed_with link found) ≡ Some (slot_at (3 * turn.monitor + 2) turn.turn)
exit_gives (Some (events.Exit monitor number)) link turn is = ap (λ (o : Option TurnOf). Some (slot_at (3 * (turn_in o).monitor + 2) (turn_in o).turn)) is
exit_gives found link turn is = absurd cc

-- what a write waits for
record WriteNeeds (found : Option Deed) (cell number : ℕ) : Type 0 where
  deed : Deed
  there : found ≡ Some deed
  needs : needs_of deed ≡ Some (slot_at (3 * cell) number)
  needs_too : needs_too_of deed ≡ Some (slot_at (3 * cell + 1) number)

-- a write waits for the write before it, and for the reads linked to that
write_needs : (found : Option Event) (link : Option ℕ) (write : WriteOf) (k : ℕ) → option_and_then write_of found ≡ Some write → write.number ≡ k + 1 → WriteNeeds (deed_with link found) write.cell k
write_needs (Some (events.Write cell value number)) link write k is next =
    let at : number ≡ k + 1 = ap (λ (o : Option WriteOf). (write_in o).number) is ∙ next in
    subst (λ (c : ℕ). WriteNeeds (Some (deeds.Write cell number)) c k) (ap (λ (o : Option WriteOf). (write_in o).cell) is) (record { deed = deeds.Write cell number; there = refl; needs = earlier_is (3 * cell) number k at; needs_too = earlier_is (3 * cell + 1) number k at })
write_needs (Some (events.Update cell old new number)) link write k is next =
    let at : number ≡ k + 1 = ap (λ (o : Option WriteOf). (write_in o).number) is ∙ next in
    subst (λ (c : ℕ). WriteNeeds (Some (deeds.Write cell number)) c k) (ap (λ (o : Option WriteOf). (write_in o).cell) is) (record { deed = deeds.Write cell number; there = refl; needs = earlier_is (3 * cell) number k at; needs_too = earlier_is (3 * cell + 1) number k at })
write_needs found link write k is next = absurd cc

-- an enter waits for the exits of the turn before it
enter_needs : (found : Option Event) (link : Option ℕ) (turn : TurnOf) (k : ℕ) → option_and_then entered_by found ≡ Some turn → turn.turn ≡ k + 1 → (deed : Deed) × (deed_with link found ≡ Some deed) × (needs_of deed ≡ Some (slot_at (3 * turn.monitor + 2) k))
enter_needs (Some (events.Enter monitor number)) link turn k is next =
    let at : number ≡ k + 1 = ap (λ (o : Option TurnOf). (turn_in o).turn) is ∙ next in
    (deeds.Enter monitor number, refl, earlier_is (3 * monitor + 2) number k at ∙ ap (λ (o : Option TurnOf). Some (slot_at (3 * (turn_in o).monitor + 2) k)) is)
enter_needs found link turn k is next = absurd cc

-- what fills a slot
data Filled (event : Event) (link : Option ℕ) (slot : Slot) : Type 0 where
  by_write : (write : WriteOf) → write_of event ≡ Some write → slot.row ≡ 3 * write.cell → slot.number ≡ write.number → Filled event link slot
  by_read : (read : ReadOf) → read_of event ≡ Some read → link ≡ Some slot.number → slot.row ≡ 3 * read.cell + 1 → Filled event link slot
  by_exit : (turn : TurnOf) → left_by event ≡ Some turn → slot.row ≡ 3 * turn.monitor + 2 → slot.number ≡ turn.turn → Filled event link slot

-- what a slot is needed for
data Needed (event : Event) (link : Option ℕ) (slot : Slot) : Type 0 where
  write_next : (write : WriteOf) → write_of event ≡ Some write → slot.row ≡ 3 * write.cell → write.number ≡ slot.number + 1 → Needed event link slot
  write_after : (write : WriteOf) → write_of event ≡ Some write → slot.row ≡ 3 * write.cell + 1 → write.number ≡ slot.number + 1 → Needed event link slot
  read_linked : (read : ReadOf) → read_of event ≡ Some read → link ≡ Some slot.number → slot.row ≡ 3 * read.cell → Needed event link slot
  enter_next : (turn : TurnOf) → entered_by event ≡ Some turn → slot.row ≡ 3 * turn.monitor + 2 → turn.turn ≡ slot.number + 1 → Needed event link slot

-- the parts of a slot
row_is : (a b : Slot) → Some a ≡ Some b → b.row ≡ a.row
row_is a b is = let same : a ≡ b = cc in sym (ap (λ (s : Slot). s.row) same)

-- and its number
number_is : (a b : Slot) → Some a ≡ Some b → b.number ≡ a.number
number_is a b is = let same : a ≡ b = cc in sym (ap (λ (s : Slot). s.number) same)

-- an event fills a slot so
filled : (event : Event) (link : Option ℕ) (slot : Slot) → ((cell value bound : ℕ) → event ≡ events.Read cell value bound → (number : ℕ) × (link ≡ Some number)) → gives_of (deed_of event link) ≡ Some slot → Filled event link slot
filled (events.Read cell value bound) link slot has is =
    let known = has cell value bound refl in
    let number : unwrap_or link 0 ≡ known.0 = ap (λ (o : Option ℕ). unwrap_or o 0) known.1 in
    by_read (record { cell = cell; value = value }) refl (known.1 ∙ ap (λ n. Some n) (sym number ∙ sym (number_is (slot_at (3 * cell + 1) (unwrap_or link 0)) slot is))) (row_is (slot_at (3 * cell + 1) (unwrap_or link 0)) slot is)
filled (events.Write cell value number) link slot has is = by_write (record { cell = cell; number = number; value = value }) refl (row_is (slot_at (3 * cell) number) slot is) (number_is (slot_at (3 * cell) number) slot is)
filled (events.Update cell old new number) link slot has is = by_write (record { cell = cell; number = number; value = new }) refl (row_is (slot_at (3 * cell) number) slot is) (number_is (slot_at (3 * cell) number) slot is)
filled (events.Enter monitor turn) link slot has is = absurd cc
filled (events.Exit monitor turn) link slot has is = by_exit (record { monitor = monitor; turn = turn }) refl (row_is (slot_at (3 * monitor + 2) turn) slot is) (number_is (slot_at (3 * monitor + 2) turn) slot is)

-- an event needs a slot so
needed : (event : Event) (link : Option ℕ) (slot : Slot) → ((cell value bound : ℕ) → event ≡ events.Read cell value bound → (number : ℕ) × (link ≡ Some number)) → Needs (deed_of event link) slot → Needed event link slot
needed (events.Read cell value bound) link slot has (inl is) =
    let known = has cell value bound refl in
    let number : unwrap_or link 0 ≡ known.0 = ap (λ (o : Option ℕ). unwrap_or o 0) known.1 in
    read_linked (record { cell = cell; value = value }) refl (known.1 ∙ ap (λ n. Some n) (sym number ∙ sym (number_is (slot_at (3 * cell) (unwrap_or link 0)) slot is))) (row_is (slot_at (3 * cell) (unwrap_or link 0)) slot is)
needed (events.Read cell value bound) link slot has (inr is) = absurd cc
needed (events.Write cell value number) link slot has (inl is) = let parts = earlier_from (3 * cell) number slot is in write_next (record { cell = cell; number = number; value = value }) refl parts.0 parts.1
needed (events.Write cell value number) link slot has (inr is) = let parts = earlier_from (3 * cell + 1) number slot is in write_after (record { cell = cell; number = number; value = value }) refl parts.0 parts.1
needed (events.Update cell old new number) link slot has (inl is) = let parts = earlier_from (3 * cell) number slot is in write_next (record { cell = cell; number = number; value = new }) refl parts.0 parts.1
needed (events.Update cell old new number) link slot has (inr is) = let parts = earlier_from (3 * cell + 1) number slot is in write_after (record { cell = cell; number = number; value = new }) refl parts.0 parts.1
needed (events.Enter monitor turn) link slot has (inl is) = let parts = earlier_from (3 * monitor + 2) turn slot is in enter_next (record { monitor = monitor; turn = turn }) refl parts.0 parts.1
needed (events.Enter monitor turn) link slot has (inr is) = absurd cc
needed (events.Exit monitor turn) link slot has (inl is) = absurd cc
needed (events.Exit monitor turn) link slot has (inr is) = absurd cc

module _ (traces : TraceLists) (links : LinkRows) (rows : List (List Deed)) (are : AreDeedsOf traces links rows) where
  -- the event at a place
  pub event_there : (at : Place) → IsPlace traces at → (event : Event) × (event_at traces at ≡ Some event)
  event_there at is = of_event (event_at traces at) is
    where
      of_event : (found : Option Event) → is_some found ≡ true → (event : Event) × (found ≡ Some event)
      of_event (Some event) is = (event, refl)
      of_event None is = absurd cc

  -- the deed of the event at a place
  pub deed_there : (at : Place) (event : Event) → event_at traces at ≡ Some event → deed_at rows at ≡ Some (deed_of event (link_at links at))
  deed_there at event is = are.deeds at ∙ ap (deed_with (link_at links at)) is

  -- where an event is, a deed is
  pub place_has : (at : Place) → IsPlace traces at → at.place < size rows at.thread
  place_has at is =
      let event = event_there at is in
      slice_get_within (deeds_of rows at.thread) at.place (deed_of event.0 (link_at links at)) (deed_there at event.0 event.1)

  -- where a deed is, an event is
  pub has_place : (at : Place) → at.place < size rows at.thread → IsPlace traces at
  has_place at small =
      let deed = slice_get-get_or (deeds_of rows at.thread) at.place (deeds.Exit 0 0) small in
      of_event (event_at traces at) (sym (are.deeds at) ∙ deed)
    where
      of_event : (found : Option Event) {deed : Deed} → deed_with (link_at links at) found ≡ Some deed → is_some found ≡ true
      of_event (Some event) is = refl
      of_event None is = absurd cc

  -- a read has a link
  read_linked_at : (at : Place) (event : Event) → event_at traces at ≡ Some event → (cell value bound : ℕ) → event ≡ events.Read cell value bound → (number : ℕ) × (link_at links at ≡ Some number)
  read_linked_at at event is cell value bound reads =
      let there : event_at traces at ≡ Some (events.Read cell value bound) = is ∙ ap (λ e. Some e) reads in
      let link = are.linked.reads at cell value bound (record { met = ap (option_and_then read_of) there; within = ap (option_and_then Rattle.interleavings.specs.Events.bound_of) there }) in
      (link.0, link.1)

  -- a read with a link is no update
  read_event : (at : Place) (read : ReadOf) (number : ℕ) → ReadsAt traces at read → link_at links at ≡ Some number → (value bound : ℕ) × (event_at traces at ≡ Some (events.Read read.cell value bound))
  read_event at read number is linked = of_event (event_at traces at) refl is
    where
      of_event : (found : Option Event) → event_at traces at ≡ found → option_and_then read_of found ≡ Some read → (value bound : ℕ) × (found ≡ Some (events.Read read.cell value bound))
      of_event (Some (events.Read cell value bound)) there is = (value, bound, ap (λ (o : Option ReadOf). Some (events.Read (read_in o).cell value bound)) is)
      of_event (Some (events.Update cell old new number')) there is = absurd (let none = are.linked.others at (ap (option_and_then Rattle.interleavings.specs.Events.bound_of) there) in cc)
      of_event found there is = absurd cc

  -- a linked read fills the slot of its link
  read_gives : (at : Place) (read : ReadOf) (number : ℕ) → ReadsAt traces at read → link_at links at ≡ Some number → gives_at rows at ≡ Some (slot_at (3 * read.cell + 1) number)
  read_gives at read number is linked =
      let event = read_event at read number is linked in
      ap (option_and_then gives_of) (deed_there at (events.Read read.cell event.0 event.1) event.2)
      ∙ ap (λ (o : Option ℕ). Some (slot_at (3 * read.cell + 1) (unwrap_or o 0))) linked

  -- and needs that of the write
  read_needs : (at : Place) (read : ReadOf) (number : ℕ) → ReadsAt traces at read → link_at links at ≡ Some number → NeedsAt rows at (slot_at (3 * read.cell) number)
  read_needs at read number is linked =
      let event = read_event at read number is linked in
      record {
        deed = deed_of (events.Read read.cell event.0 event.1) (link_at links at);
        there = deed_there at (events.Read read.cell event.0 event.1) event.2;
        needs = inl (ap (λ (o : Option ℕ). Some (slot_at (3 * read.cell) (unwrap_or o 0))) linked);
      }

  -- a write fills the slot of its number
  gives_write : (at : Place) (write : WriteOf) → WritesAt traces at write → gives_at rows at ≡ Some (slot_at (3 * write.cell) write.number)
  gives_write at write is = ap (option_and_then gives_of) (are.deeds at) ∙ write_gives (event_at traces at) (link_at links at) write is

  -- the same slot under another name
  renamed : (row row' number number' : ℕ) → row ≡ row' → number ≡ number' → Some (slot_at row number) ≡ Some (slot_at row' number')
  renamed row row' number number' rows_are numbers = ap₂ (λ r n. Some (slot_at r n)) rows_are numbers

  -- what has to come before an event directly
  pub directly : (before at : Place) → Direct traces links before at → IsNext before at ⊎ Fills rows before at
  directly before at (Direct.in_thread thread place) = inl (record { thread = sym thread; place = sym place })
  directly before at (Direct.next_write write next writes follows cell number) =
      let needs = write_needs (event_at traces at) (link_at links at) next write.number follows number in
      inr (record {
        slot = slot_at (3 * next.cell) write.number;
        gives = gives_write before write writes ∙ renamed (3 * write.cell) (3 * next.cell) write.number write.number (ap (λ c. 3 * c) (sym cell)) refl;
        needs = record { deed = needs.deed; there = are.deeds at ∙ needs.there; needs = inl needs.needs };
      })
  directly before at (Direct.read_of_write write read writes reads cell linked) =
      inr (record {
        slot = slot_at (3 * read.cell) write.number;
        gives = gives_write before write writes ∙ renamed (3 * write.cell) (3 * read.cell) write.number write.number (ap (λ c. 3 * c) (sym cell)) refl;
        needs = read_needs at read write.number reads linked;
      })
  directly before at (Direct.write_after_read read number next reads linked follows cell next_number) =
      let needs = write_needs (event_at traces at) (link_at links at) next number follows next_number in
      inr (record {
        slot = slot_at (3 * next.cell + 1) number;
        gives = read_gives before read number reads linked ∙ renamed (3 * read.cell + 1) (3 * next.cell + 1) number number (ap (λ c. 3 * c + 1) (sym cell)) refl;
        needs = record { deed = needs.deed; there = are.deeds at ∙ needs.there; needs = inr needs.needs_too };
      })
  directly before at (Direct.next_turn left begun leaves enters monitor turn) =
      let needs = enter_needs (event_at traces at) (link_at links at) begun left.turn enters turn in
      inr (record {
        slot = slot_at (3 * begun.monitor + 2) left.turn;
        gives = ap (option_and_then gives_of) (are.deeds before) ∙ (exit_gives (event_at traces before) (link_at links before) left leaves ∙ renamed (3 * left.monitor + 2) (3 * begun.monitor + 2) left.turn left.turn (ap (λ m. 3 * m + 2) (sym monitor)) refl);
        needs = record { deed = needs.0; there = are.deeds at ∙ needs.1; needs = inl needs.2 };
      })

  -- a slot ties two events
  tied : (before at : Place) (first second : Event) (slot : Slot) → event_at traces before ≡ Some first → event_at traces at ≡ Some second → Filled first (link_at links before) slot → Needed second (link_at links at) slot → Direct traces links before at
  tied before at first second slot there here (Filled.by_write write writes row number) (Needed.write_next next follows row' number') = Direct.next_write write next (ap (option_and_then write_of) there ∙ writes) (ap (option_and_then write_of) here ∙ follows) (omega arith) (omega arith)
  tied before at first second slot there here (Filled.by_write write writes row number) (Needed.write_after next follows row' number') = absurd (omega arith)
  tied before at first second slot there here (Filled.by_write write writes row number) (Needed.read_linked read reads linked row') = Direct.read_of_write write read (ap (option_and_then write_of) there ∙ writes) (ap (option_and_then read_of) here ∙ reads) (omega arith) (linked ∙ ap (λ n. Some n) number)
  tied before at first second slot there here (Filled.by_write write writes row number) (Needed.enter_next turn enters row' number') = absurd (omega arith)
  tied before at first second slot there here (Filled.by_read read reads linked row) (Needed.write_next next follows row' number') = absurd (omega arith)
  tied before at first second slot there here (Filled.by_read read reads linked row) (Needed.write_after next follows row' number') = Direct.write_after_read read slot.number next (ap (option_and_then read_of) there ∙ reads) linked (ap (option_and_then write_of) here ∙ follows) (omega arith) number'
  tied before at first second slot there here (Filled.by_read read reads linked row) (Needed.read_linked read' reads' linked' row') = absurd (omega arith)
  tied before at first second slot there here (Filled.by_read read reads linked row) (Needed.enter_next turn enters row' number') = absurd (omega arith)
  tied before at first second slot there here (Filled.by_exit left leaves row number) (Needed.write_next next follows row' number') = absurd (omega arith)
  tied before at first second slot there here (Filled.by_exit left leaves row number) (Needed.write_after next follows row' number') = absurd (omega arith)
  tied before at first second slot there here (Filled.by_exit left leaves row number) (Needed.read_linked read reads linked row') = absurd (omega arith)
  tied before at first second slot there here (Filled.by_exit left leaves row number) (Needed.enter_next turn enters row' number') = Direct.next_turn left turn (ap (option_and_then left_by) there ∙ leaves) (ap (option_and_then entered_by) here ∙ enters) (omega arith) (omega arith)

  -- the other way round
  pub precedes_from : (before at : Place) → before.place < size rows before.thread → at.place < size rows at.thread → IsNext before at ⊎ Fills rows before at → Precedes traces links before at
  precedes_from before at there here (inl next) = record { first = has_place before there; second = has_place at here; direct = Direct.in_thread (sym next.thread) (sym next.place) }
  precedes_from before at there here (inr fills) =
      let first = event_there before (has_place before there) in
      let second = event_there at (has_place at here) in
      let deed : fills.needs.deed ≡ deed_of second.0 (link_at links at) = (let both : Some fills.needs.deed ≡ Some (deed_of second.0 (link_at links at)) = sym fills.needs.there ∙ deed_there at second.0 second.1 in cc) in
      let gives : gives_of (deed_of first.0 (link_at links before)) ≡ Some fills.slot = ap (option_and_then gives_of) (sym (deed_there before first.0 first.1)) ∙ fills.gives in
      record {
        first = has_place before there;
        second = has_place at here;
        direct = tied before at first.0 second.0 fills.slot first.1 second.1
            (filled first.0 (link_at links before) fills.slot (read_linked_at before first.0 first.1) gives)
            (needed second.0 (link_at links at) fills.slot (read_linked_at at second.0 second.1) (subst (λ (d : Deed). Needs d fills.slot) deed fills.needs.needs));
      }

  -- what precedes an event
  pub precedes_to : (before at : Place) → Precedes traces links before at → IsNext before at ⊎ Fills rows before at
  precedes_to before at precedes = directly before at precedes.direct

-- The direct order of the events of a history has no cycle: each event has a height, and each of its direct successors a
-- greater one.
use Rattle.std.proofs.Common.{◌≡◌, ℕ, ◌+◌, ◌*◌, ◌<◌, ◌≤◌, max, true, List, [], ◌∷◌, length, Option, Some, None, is_some, option_and_then, refl, sym, ◌∙◌, ap, subst, arith}
use Rattle.std.specs.Prelude.{unwrap_or}
use Rattle.std.proofs.lemmas.Bool.{false≢true}
use Rattle.std.proofs.lemmas.Option.{none-some, same_Some, option_and_then_some, slice_get_within}
use Rattle.interleavings.specs.declared.event.Event.{Event}
use Rattle.interleavings.specs.declared.event.Event.TheVariants.{Read, Write, Update, Enter, Exit}
use Rattle.interleavings.specs.declared.traces.Place.{Place}
use Rattle.interleavings.specs.Events.{WriteOf, ReadOf, TurnOf, write_of, read_of, bound_of, entered_by, left_by}
use Rattle.interleavings.specs.History.{State, after}
use Rattle.interleavings.specs.TraceLists.{TraceLists, events_of}
use Rattle.linkage.specs.Links.{IsLinked, link_at}
use Rattle.linkage.specs.Sources.{event_at, IsReadAt, Stored}
use Rattle.event_order.specs.Cycles.{IsRing, Leads, Precedes}
use Rattle.event_order.specs.DirectOrder.{Direct, LinkRows, WritesAt, ReadsAt, EntersAt, LeavesAt, in_thread, next_write, read_of_write, write_after_read, next_turn}
use Rattle.event_order.specs.Extensions.{IsPlace}
use Rattle.histories.specs.Chronicle.{Puts, Entries, Exits, Stamp, Chronicle, AreStamps, IsReadOf}
use Rattle.histories.specs.Laws.{HistoriesHaveChronicles}
use Rattle.history_laws.specs.Laws.{HistoriesAreOrdered}
use Rattle.history_laws.proofs.Linked.{world_of}
use Rattle.history_laws.proofs.Told.{World, stamp_at, write_at, entry_at, exit_at, read_at, stored}

-- the height of an event: twice the time at which it took effect. A read stands behind the load of its value, and behind the
-- write to which it is linked
abbrev height_of : Chronicle → Option ℕ → Stamp → Option Event → ℕ
height_of c link stamp None = 0
height_of c link stamp (Some (Read cell value bound)) = max (2 * stamp.from) (2 * (c.mark (Puts cell) (unwrap_or link 0)).time + 1)
height_of c link stamp (Some (Write cell value number)) = 2 * stamp.from
height_of c link stamp (Some (Update cell old new number)) = 2 * stamp.from
height_of c link stamp (Some (Enter monitor turn)) = 2 * stamp.from
height_of c link stamp (Some (Exit monitor turn)) = 2 * stamp.from

abbrev height : TraceLists → LinkRows → Chronicle → Place → ℕ
height traces links c at = height_of c (link_at links at) (stamp_at c at) (event_at traces at)

write_height : (c : Chronicle) (link : Option ℕ) (stamp : Stamp) (event : Event) (write : WriteOf) → write_of event ≡ Some write → height_of c link stamp (Some event) ≡ 2 * stamp.from
write_height c link stamp (Read cell value bound) write e = absurd (none-some write e)
write_height c link stamp (Write cell value number) write e = refl
write_height c link stamp (Update cell old new number) write e = refl
write_height c link stamp (Enter monitor turn) write e = refl
write_height c link stamp (Exit monitor turn) write e = refl

entry_height : (c : Chronicle) (link : Option ℕ) (stamp : Stamp) (event : Event) (turn : TurnOf) → entered_by event ≡ Some turn → height_of c link stamp (Some event) ≡ 2 * stamp.from
entry_height c link stamp (Read cell value bound) turn e = absurd (none-some turn e)
entry_height c link stamp (Write cell value number) turn e = refl
entry_height c link stamp (Update cell old new number) turn e = refl
entry_height c link stamp (Enter monitor entered) turn e = refl
entry_height c link stamp (Exit monitor left) turn e = refl

exit_height : (c : Chronicle) (link : Option ℕ) (stamp : Stamp) (event : Event) (turn : TurnOf) → left_by event ≡ Some turn → height_of c link stamp (Some event) ≡ 2 * stamp.from
exit_height c link stamp (Read cell value bound) turn e = absurd (none-some turn e)
exit_height c link stamp (Write cell value number) turn e = refl
exit_height c link stamp (Update cell old new number) turn e = refl
exit_height c link stamp (Enter monitor entered) turn e = refl
exit_height c link stamp (Exit monitor left) turn e = refl

-- no event stands below the time at which it took effect
from_height : (c : Chronicle) (link : Option ℕ) (stamp : Stamp) (event : Event) → 2 * stamp.from ≤ height_of c link stamp (Some event)
from_height c link stamp (Read cell value bound) = omega arith
from_height c link stamp (Write cell value number) = omega arith
from_height c link stamp (Update cell old new number) = omega arith
from_height c link stamp (Enter monitor turn) = omega arith
from_height c link stamp (Exit monitor turn) = omega arith

-- an event that reads and has a link is a read that was made without a lock
bound_there : (event : Event) (read : ReadOf) → read_of event ≡ Some read → (bound_of event ≡ None → ⊥) → (bound : ℕ) × (bound_of event ≡ Some bound) × (event ≡ Read read.cell read.value bound)
bound_there (Read cell value bound) read e some = (bound, refl, ap (λ (r : ReadOf). Read r.cell r.value bound) (same_Some (record { cell = cell; value = value }) read e))
bound_there (Write cell value number) read e some = absurd (some refl)
bound_there (Update cell old new number) read e some = absurd (some refl)
bound_there (Enter monitor turn) read e some = absurd (some refl)
bound_there (Exit monitor turn) read e some = absurd (some refl)

-- what is known of a read and of its link
record LinkedRead (c : Chronicle) (at : Place) (cell number height : ℕ) : Type 0 where
  pub there : number ≤ c.count (Puts cell)
  pub high : height ≡ max (2 * (stamp_at c at).from) (2 * (c.mark (Puts cell) number).time + 1)
  pub finished : (c.mark (Puts cell) number).time < (stamp_at c at).upto
  pub next : number + 1 ≤ c.count (Puts cell) → (stamp_at c at).from < (c.mark (Puts cell) (number + 1)).time

there_is : (found : Option Event) → is_some found ≡ true → (event : Event) × (found ≡ Some event)
there_is (Some event) some = (event, refl)
there_is None some = absurd (false≢true some)

module _ (traces : TraceLists) (st : State) (c : Chronicle) (w : World traces st c) (links : LinkRows) (linked : IsLinked traces links) where
  write_high : (at : Place) (write : WriteOf) → WritesAt traces at write → (height traces links c at ≡ 2 * (c.mark (Puts write.cell) write.number).time) × (write.number ≤ c.count (Puts write.cell))
  write_high at write is =
      let step = (write_at traces st c w at write is).0.step in (
        option_and_then_some write_of (event_at traces at) write is (λ event there tells. ap (height_of c (link_at links at) (stamp_at c at)) there ∙ write_height c (link_at links at) (stamp_at c at) event write tells)
            ∙ ap (λ x. 2 * x) (sym step.moment),
        step.made,
      )

  entry_high : (at : Place) (turn : TurnOf) → EntersAt traces at turn → (height traces links c at ≡ 2 * (c.mark (Entries turn.monitor) turn.turn).time) × (turn.turn ≤ c.count (Entries turn.monitor))
  entry_high at turn is =
      let step = (entry_at traces st c w at turn is).0 in (
        option_and_then_some entered_by (event_at traces at) turn is (λ event there tells. ap (height_of c (link_at links at) (stamp_at c at)) there ∙ entry_height c (link_at links at) (stamp_at c at) event turn tells)
            ∙ ap (λ x. 2 * x) (sym step.moment),
        step.made,
      )

  exit_high : (at : Place) (turn : TurnOf) → LeavesAt traces at turn → height traces links c at ≡ 2 * (c.mark (Exits turn.monitor) turn.turn).time
  exit_high at turn is =
      option_and_then_some left_by (event_at traces at) turn is (λ event there tells. ap (height_of c (link_at links at) (stamp_at c at)) there ∙ exit_height c (link_at links at) (stamp_at c at) event turn tells)
      ∙ ap (λ x. 2 * x) (sym (exit_at traces st c w at turn is).moment)

  -- a read made without a lock
  free_read : (at : Place) (cell value bound : ℕ) → event_at traces at ≡ Some (Read cell value bound) → (number : ℕ) × (link_at links at ≡ Some number) × LinkedRead c at cell number (height traces links c at)
  free_read at cell value bound there =
      let reads : IsReadAt traces at cell value bound = record { met = ap (option_and_then read_of) there; within = ap (option_and_then bound_of) there } in
      let link = linked.reads at cell value bound reads in
      let is = link.2 in
      let read = read_at traces st c w at cell value bound reads in
      let r : IsReadOf c cell value bound (stamp_at c at) = read.0 in
      let last : Stored traces cell r.last value = subst (λ (x : ℕ). Stored traces cell r.last x) r.equal (stored traces st c w cell r.last read.1 (omega (arith, r.within, r.made))) in
      let above : r.last ≤ link.0 = is.greatest r.last r.within last in (
        link.0,
        link.1,
        record {
          there = omega (arith, is.within, r.made);
          high = ap (height_of c (link_at links at) (stamp_at c at)) there ∙ ap (λ (x : Option ℕ). max (2 * (stamp_at c at).from) (2 * (c.mark (Puts cell) (unwrap_or x 0)).time + 1)) link.1;
          finished = r.upto.before link.0 is.within;
          next = λ le. r.from.behind (link.0 + 1) (omega arith) le;
        },
      )

  -- any read that has a link
  linked_read : (at : Place) (read : ReadOf) (number : ℕ) → ReadsAt traces at read → link_at links at ≡ Some number → LinkedRead c at read.cell number (height traces links c at)
  linked_read at read number is link = option_and_then_some read_of (event_at traces at) read is (λ event there tells.
      let bound = bound_there event read tells (λ none. none-some number (sym (linked.others at (ap (option_and_then bound_of) there ∙ none)) ∙ link)) in
      let free = free_read at read.cell read.value bound.0 (there ∙ ap Some bound.2) in
      subst (λ (x : ℕ). LinkedRead c at read.cell x (height traces links c at)) (same_Some free.0 number (sym free.1 ∙ link)) free.2)

  -- no event stands above the time at which it was finished
  upto_height : (at : Place) (event : Event) → event_at traces at ≡ Some event → (stamp_at c at).from ≤ (stamp_at c at).upto → height traces links c at ≤ 2 * (stamp_at c at).upto
  upto_height at (Read cell value bound) there ordered = (let read = (free_read at cell value bound there).2 in omega (arith, read.high, read.finished))
  upto_height at (Write cell value number) there ordered = omega (arith, ap (height_of c (link_at links at) (stamp_at c at)) there)
  upto_height at (Update cell old new number) there ordered = omega (arith, ap (height_of c (link_at links at) (stamp_at c at)) there)
  upto_height at (Enter monitor turn) there ordered = omega (arith, ap (height_of c (link_at links at) (stamp_at c at)) there)
  upto_height at (Exit monitor turn) there ordered = omega (arith, ap (height_of c (link_at links at) (stamp_at c at)) there)

  inside : (at : Place) (event : Event) → event_at traces at ≡ Some event → at.place < length (st.people at.thread).activity.events
  inside at event there = (let less = slice_get_within (events_of traces at.thread) at.place event there in omega (arith, ap length (w.events at.thread)))

  -- the next event of a thread stands higher
  thread_rises : (first second : Place) → IsPlace traces first → IsPlace traces second → second.thread ≡ first.thread → second.place ≡ first.place + 1 → height traces links c first < height traces links c second
  thread_rises first second is next same one =
      let there = there_is (event_at traces first) is in
      let after = there_is (event_at traces second) next in
      let stamps : AreStamps c.now (c.begun first.thread) (c.stamp first.thread) (length (st.people first.thread).activity.events) (st.people first.thread).activity.phase = w.is.follows first.thread in
      let last : second.place < length (st.people first.thread).activity.events = subst (λ (x : ℕ). second.place < length (st.people x).activity.events) same (inside second after.0 after.1) in
      let apart = stamps.apart first.place second.place (omega arith) last in
      let low = upto_height first there.0 there.1 (stamps.ordered first.place (inside first there.0 there.1)) in
      let high = from_height c (link_at links second) (stamp_at c second) after.0 in
      omega (arith, ap (height_of c (link_at links second) (stamp_at c second)) after.1, ap (λ x. (c.stamp x second.place).from) same)

  -- a direct successor stands higher
  pub rises : (first second : Place) → Precedes traces links first second → height traces links c first < height traces links c second
  rises first second p = by_line p.direct
    where
      by_line : Direct traces links first second → height traces links c first < height traces links c second
      by_line (in_thread same one) = thread_rises first second p.first p.second same one
      by_line (next_write write next writes nexts same one) =
          let low = write_high first write writes in
          let high = write_high second next nexts in
          let order = w.is.rises (Puts write.cell) write.number next.number (omega arith) (subst (λ (x : ℕ). next.number ≤ c.count (Puts x)) same high.1) in
          omega (arith, low.0, high.0, ap (λ x. (c.mark (Puts x) next.number).time) same)
      by_line (read_of_write write read writes reads same link) =
          let low = write_high first write writes in
          let high = linked_read second read write.number reads link in
          omega (arith, low.0, high.high, ap (λ x. (c.mark (Puts x) write.number).time) same)
      by_line (write_after_read read number next reads link writes same one) =
          let low = linked_read first read number reads link in
          let high = write_high second next writes in
          let there : number + 1 ≤ c.count (Puts read.cell) = subst (λ (x : ℕ). number + 1 ≤ c.count (Puts x)) same (omega (arith, high.1)) in
          let order = w.is.rises (Puts read.cell) number (number + 1) (omega arith) there in
          let behind = low.next there in
          omega (arith, low.high, high.0, ap (λ x. (c.mark (Puts x) next.number).time) same, ap (λ k. (c.mark (Puts read.cell) k).time) one)
      by_line (next_turn left begun leaves enters same one) =
          let low = exit_high first left leaves in
          let high = entry_high second begun enters in
          let there : left.turn + 1 ≤ c.count (Entries left.monitor) = subst (λ (x : ℕ). left.turn + 1 ≤ c.count (Entries x)) same (omega (arith, high.1)) in
          let order = w.is.turns left.monitor left.turn there in
          omega (arith, low, high.0, ap (λ x. (c.mark (Entries x) begun.turn).time) same, ap (λ k. (c.mark (Entries left.monitor) k).time) one)

-- what leads from one place to another leads upwards
leads_up : (relation : Place → Place → Type 0) (h : Place → ℕ) → ((a b : Place) → relation a b → h a < h b) → (at : Place) (rest : List Place) (end : Place) → Leads relation (at ∷ rest) end → h at < h end
leads_up relation h up at [] end leads = up at end leads.0
leads_up relation h up at (next ∷ rest) end leads = (let first = up at next leads.0 in let others = leads_up relation h up next rest end leads.1 in omega arith)

no_ring : (relation : Place → Place → Type 0) (h : Place → ℕ) → ((a b : Place) → relation a b → h a < h b) → (ring : List Place) → IsRing relation ring → ⊥
no_ring relation h up [] is = is
no_ring relation h up (at ∷ rest) is = (let above = leads_up relation h up at rest at is in omega arith)

-- of the events of any history
pub histories-ordered : HistoriesHaveChronicles → HistoriesAreOrdered
histories-ordered chronicles steps traces links are linked cycle is =
    let c : Chronicle = (chronicles traces.starts steps are.lawful).0 in
    no_ring (Precedes traces links) (height traces links c) (rises traces (after traces.starts steps) c (world_of steps traces are chronicles) links linked) cycle is

-- Nothing about the links of the events of a history is refused.
use Rattle.std.proofs.Common.{◌≡◌, ℕ, ◌+◌, ◌-◌, ◌<◌, ◌≤◌, List, Option, Some, None, refl, sym, ◌∙◌, ap, subst, arith}
use Rattle.interleavings.specs.declared.traces.Place.{Place}
use Rattle.interleavings.specs.History.{State, Step, after}
use Rattle.interleavings.specs.TraceLists.{TraceLists}
use Rattle.linkage.specs.declared.link_error.LinkError.{LinkError}
use Rattle.linkage.specs.declared.link_error.LinkError.TheVariants.{TwiceWritten, WriteGap, TwiceTurned, TurnGap, BoundTooLarge, NoEqualWrite, UpdateMismatch, NoMemory}
use Rattle.linkage.specs.Refusals.{IsRefused}
use Rattle.linkage.specs.Sources.{IsWriteAt, Stored, IsEntryAt}
use Rattle.histories.specs.Chronicle.{Series, Puts, Entries, Exits, Chronicle, IsStepOf}
use Rattle.histories.specs.Laws.{HistoriesHaveChronicles}
use Rattle.history_laws.specs.HistoryEvents.{AreEventsOf}
use Rattle.history_laws.specs.Laws.{HistoriesAreLinked}
use Rattle.history_laws.proofs.Told.{World, write_at, entry_at, read_at, update_at, stored, left, same_places, stamp_at}

-- the world of the events of a history
pub world_of : (steps : List Step) (traces : TraceLists) (are : AreEventsOf steps traces) (chronicles : HistoriesHaveChronicles) → World traces (after traces.starts steps) (chronicles traces.starts steps are.lawful).0
world_of steps traces are chronicles = record { is = (chronicles traces.starts steps are.lawful).1; at_rest = are.at_rest; events = are.events; range = are.range }

-- one step of a series has one place
one_place : (c : Chronicle) (series : Series) (number : ℕ) (one other : Place) (time time' : ℕ) → IsStepOf c series number one.thread one.place time → IsStepOf c series number other.thread other.place time' → one ≡ other
one_place c series number one other time time' a b = same_places one other (sym a.who ∙ b.who) (sym a.place ∙ b.place)

module _ (traces : TraceLists) (st : State) (c : Chronicle) (w : World traces st c) where
  written_once : (cell number value value' : ℕ) (one other : Option Place) → IsWriteAt traces one cell number value → IsWriteAt traces other cell number value' → one ≡ other
  written_once cell number value value' None None a b = refl
  written_once cell number value value' None (Some at) a b = (let some = (write_at traces st c w at (record { cell = cell; number = number; value = value' }) b).0.step.some in absurd (omega (arith, a.0)))
  written_once cell number value value' (Some at) None a b = (let some = (write_at traces st c w at (record { cell = cell; number = number; value = value }) a).0.step.some in absurd (omega (arith, b.0)))
  written_once cell number value value' (Some at) (Some at') a b =
      ap Some (one_place c (Puts cell) number at at' (stamp_at c at).from (stamp_at c at').from
      (write_at traces st c w at (record { cell = cell; number = number; value = value }) a).0.step
      (write_at traces st c w at' (record { cell = cell; number = number; value = value' }) b).0.step)

  entered_once : (monitor turn : ℕ) (one other : Option Place) → IsEntryAt traces one monitor turn → IsEntryAt traces other monitor turn → one ≡ other
  entered_once monitor turn None None a b = refl
  entered_once monitor turn None (Some at) a b = (let some = (entry_at traces st c w at (record { monitor = monitor; turn = turn }) b).0.some in absurd (omega (arith, a.0)))
  entered_once monitor turn (Some at) None a b = (let some = (entry_at traces st c w at (record { monitor = monitor; turn = turn }) a).0.some in absurd (omega (arith, b.0)))
  entered_once monitor turn (Some at) (Some at') a b =
      ap Some (one_place c (Entries monitor) turn at at' (stamp_at c at).from (stamp_at c at').from
      (entry_at traces st c w at (record { monitor = monitor; turn = turn }) a).0
      (entry_at traces st c w at' (record { monitor = monitor; turn = turn }) b).0)

  -- below a write there is each write
  stored_below : (cell number greater value : ℕ) (source : Option Place) → IsWriteAt traces source cell greater value → number < greater → Stored traces cell number (c.mark (Puts cell) number).value
  stored_below cell number greater value None is above = absurd (omega (arith, is.0))
  stored_below cell number greater value (Some at) is above =
      let write = write_at traces st c w at (record { cell = cell; number = greater; value = value }) is in
      stored traces st c w cell number write.1 (omega (arith, write.0.step.made))

  -- below an entry each turn was ended
  left_below : (monitor turn greater : ℕ) (source : Option Place) → IsEntryAt traces source monitor greater → turn < greater → (monitor < traces.monitors) × (turn ≤ c.count (Exits monitor))
  left_below monitor turn greater None is above = absurd (omega (arith, is.0))
  left_below monitor turn greater (Some at) is above =
      let entry = entry_at traces st c w at (record { monitor = monitor; turn = greater }) is in
      (entry.1, omega (arith, entry.0.made, w.is.entries monitor, w.is.exits monitor))

  -- whatever would be refused
  pub unrefused : (refusal : LinkError) → IsRefused traces refusal → ⊥
  unrefused (TwiceWritten cell number) r = r.differ (written_once cell number r.one_value r.other_value r.one r.other r.one_writes r.other_writes)
  unrefused (WriteGap cell number) r = r.missing (c.mark (Puts cell) number).value (stored_below cell number r.greater r.greater_value r.there.0 r.there.1 r.above)
  unrefused (TwiceTurned monitor turn) r = r.differ (entered_once monitor turn r.one r.other r.one_enters r.other_enters)
  unrefused (TurnGap monitor turn) r =
      let below = left_below monitor turn r.greater r.source r.enters r.above in
      let exit = left traces st c w monitor turn below.0 below.1 in
      r.missing exit.0 exit.1
  unrefused (BoundTooLarge at) r =
      let read = read_at traces st c w at r.cell r.value r.bound r.reads in
      let less = r.above r.bound (c.mark (Puts r.cell) r.bound).value (stored traces st c w r.cell r.bound read.1 read.0.made) in
      omega arith
  unrefused (NoEqualWrite at) r =
      let read = read_at traces st c w at r.cell r.value r.bound r.reads in
      let last : Stored traces r.cell read.0.last (c.mark (Puts r.cell) read.0.last).value = stored traces st c w r.cell read.0.last read.1 (omega (arith, read.0.within, read.0.made)) in
      r.none read.0.last read.0.within (subst (λ (x : ℕ). Stored traces r.cell read.0.last x) read.0.equal last)
  unrefused (UpdateMismatch at) r =
      let write = write_at traces st c w at (record { cell = r.cell; number = r.number; value = r.updates.new }) r.updates.made in
      let one : r.number - 1 + 1 ≡ r.number = omega (arith, write.0.step.some) in
      let before : Stored traces r.cell (r.number - 1) (c.mark (Puts r.cell) (r.number - 1)).value = stored traces st c w r.cell (r.number - 1) write.1 (omega (arith, write.0.step.made)) in
      r.none (r.number - 1) one (subst (λ (x : ℕ). Stored traces r.cell (r.number - 1) x) (update_at traces st c w at r.cell r.old r.number (r.number - 1) r.updates one) before)
  unrefused NoMemory r = r

-- of the events of any history
pub histories-linked : HistoriesHaveChronicles → HistoriesAreLinked
histories-linked chronicles steps traces are refusal r = unrefused traces (after traces.starts steps) (chronicles traces.starts steps are.lawful).0 (world_of steps traces are chronicles) refusal r

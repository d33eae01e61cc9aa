-- What the machine does at the stop at which an event is met is what the event says, where the event suits what happened before.
use Rattle.std.proofs.Common.{◌≡◌, ℕ, true, Some, refl, sym, ap, ap₂, subst}
use Rattle.stride_isa.specs.Changes.{applied}
use Rattle.stride_isa.specs.declared.change.Change.{Change}
use Rattle.sc_machine.specs.declared.end.End.{End}
use Rattle.sc_machine.specs.declared.end.End.TheVariants.{Halted}
use Rattle.sc_machine.specs.declared.stop.Stop.{Stop}
use Rattle.sc_machine.specs.declared.stop.Stop.TheVariants as stops
use Rattle.sc_machine.specs.ThreadStep.{Row, Goes, Ends, Stands, stop_in}
use Rattle.sc_machine.specs.Machine.{cells_after, holders_after, is_free_for, may_pass, put, word_read}
use Rattle.interleavings.specs.declared.event.Event.{Event}
use Rattle.interleavings.specs.declared.event.Event.TheVariants as events
use Rattle.interleavings.specs.Events.{word_given}
use Rattle.interleavings.specs.RunEvents.{Exits, Enters, Reads, Updates, Writes, counts_after, event_made, plain}
use Rattle.interleavings.specs.Walking.{IsMet}
use Rattle.event_order.proofs.Fits.{World, Suits, world_after}

-- the thread may go on at the stop, reads what the event gives it, and leaves what the event leaves
pub record Meets (t : ℕ) (stop : Stop) (event : Event) (w : World) : Type 0 where
  pub pass : may_pass t stop w.holders ≡ true
  pub word : word_read stop w.cells ≡ word_given event
  pub cells : cells_after stop w.cells ≡ (world_after t event w).cells
  pub holders : holders_after t stop w.holders ≡ (world_after t event w).holders
  pub counts : counts_after stop w.counts ≡ (world_after t event w).counts
  pub made : event_made stop w.cells w.counts ≡ Some (plain event)

-- at a read
meets_read : (t : ℕ) (w : World) (cell value bound : ℕ) → Suits w (events.Read cell value bound) → Meets t (stops.Read cell) (events.Read cell value bound) w
meets_read t w cell value bound suits = record {
  pass = refl;
  word = suits.read;
  cells = refl;
  holders = refl;
  counts = refl;
  made = ap (λ v. Some (Reads cell v)) suits.read;
}

-- at a write
meets_write : (t : ℕ) (w : World) (cell value number : ℕ) → Suits w (events.Write cell value number) → Meets t (stops.Write cell value) (events.Write cell value number) w
meets_write t w cell value number suits = record {
  pass = refl;
  word = refl;
  cells = refl;
  holders = refl;
  counts = refl;
  made = ap (λ n. Some (Writes cell value n)) (sym suits.write);
}

-- at an update
meets_update : (t : ℕ) (w : World) (cell : ℕ) (change : Change) (old number : ℕ) → Suits w (events.Update cell old (applied change old) number) → Meets t (stops.Update cell change) (events.Update cell old (applied change old) number) w
meets_update t w cell change old number suits = record {
  pass = refl;
  word = suits.read;
  cells = ap (λ v. put w.cells cell (applied change v)) suits.read;
  holders = refl;
  counts = refl;
  made = ap₂ (λ v n. Some (Updates cell v (applied change v) n)) suits.read (sym suits.write);
}

-- at an enter
meets_enter : (t : ℕ) (w : World) (monitor turn : ℕ) → Suits w (events.Enter monitor turn) → Meets t (stops.Enter monitor) (events.Enter monitor turn) w
meets_enter t w monitor turn suits = record {
  pass = ap (is_free_for t) suits.enter.1;
  word = refl;
  cells = refl;
  holders = refl;
  counts = refl;
  made = ap (λ n. Some (Enters monitor n)) (sym suits.enter.0);
}

-- at an exit
meets_exit : (t : ℕ) (w : World) (monitor turn : ℕ) → Suits w (events.Exit monitor turn) → Meets t (stops.Exit monitor) (events.Exit monitor turn) w
meets_exit t w monitor turn suits = record {
  pass = refl;
  word = refl;
  cells = refl;
  holders = refl;
  counts = refl;
  made = ap (λ n. Some (Exits monitor n)) (sym suits.left);
}

-- an ended thread meets no event
nothing_at_end : (end : End) (turns : ℕ → ℕ) (event : Event) → IsMet (stops.Ended end) turns event → ⊥
nothing_at_end end turns (events.Read cell value bound) met = absurd cc
nothing_at_end end turns (events.Write cell value number) met = absurd cc
nothing_at_end end turns (events.Update cell old new number) met = absurd cc
nothing_at_end end turns (events.Enter monitor turn) met = absurd cc
nothing_at_end end turns (events.Exit monitor turn) met = absurd cc

-- at any stop
pub meets : (stop : Stop) (turns : ℕ → ℕ) (event : Event) (t : ℕ) (w : World) → IsMet stop turns event → Suits w event → Meets t stop event w
meets (stops.Read at) turns (events.Read cell value bound) t w met suits =
    let same : stops.Read cell ≡ stops.Read at = ap stops.Read (let back : cell ≡ at = cc in back) in
    subst (λ (stop : Stop). Meets t stop (events.Read cell value bound) w) same (meets_read t w cell value bound suits)
meets (stops.Write at stored) turns (events.Write cell value number) t w met suits =
    let place : cell ≡ at = cc in
    let word : value ≡ stored = cc in
    subst (λ (stop : Stop). Meets t stop (events.Write cell value number) w) (ap₂ stops.Write place word) (meets_write t w cell value number suits)
meets (stops.Update at change) turns (events.Update cell old new number) t w met suits =
    let place : cell ≡ at = cc in
    let word : applied change old ≡ new = cc in
    let own : Suits w (events.Update cell old (applied change old) number) = subst (λ (v : ℕ). Suits w (events.Update cell old v number)) (sym word) suits in
    let here : Meets t (stops.Update at change) (events.Update cell old (applied change old) number) w = subst (λ (c : ℕ). Meets t (stops.Update c change) (events.Update cell old (applied change old) number) w) place (meets_update t w cell change old number own) in
    subst (λ (v : ℕ). Meets t (stops.Update at change) (events.Update cell old v number) w) word here
meets (stops.Enter at) turns (events.Enter monitor turn) t w met suits =
    let place : monitor ≡ at = cc in
    subst (λ (m : ℕ). Meets t (stops.Enter m) (events.Enter monitor turn) w) place (meets_enter t w monitor turn suits)
meets (stops.Exit at) turns (events.Exit monitor turn) t w met suits =
    let place : monitor ≡ at = cc in
    subst (λ (m : ℕ). Meets t (stops.Exit m) (events.Exit monitor turn) w) place (meets_exit t w monitor turn suits)
meets (stops.Ended end) turns event t w met suits = absurd (nothing_at_end end turns event met)
meets stop turns event t w met suits = absurd cc

-- a thread that meets an event stands
pub stands_where_met : (next : Row) (turns : ℕ → ℕ) (event : Event) → IsMet (stop_in next) turns event → next ≡ Stands (stop_in next)
stands_where_met (Goes pc stack locals printed) turns event met = absurd (nothing_at_end (Halted) turns event met)
stands_where_met (Ends end) turns event met = absurd (nothing_at_end (Halted) turns event met)
stands_where_met (Stands stop) turns event met = refl

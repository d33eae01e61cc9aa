-- In the end of a run a cell holds the value of its last write, or the value with which the run began where there is none.
use Rattle.std.proofs.Common.{◌≡◌, ◌≢◌, ◌⊎◌, ℕ, zero, suc, ◌+◌, ◌≤◌, ◌==◌, Bool, true, false, if◌then◌else◌, List, [], ◌∷◌, Option, Some, None, option_and_then, slice_get, map, refl, sym, ◌∙◌, ap, ap₂, subst, inl, inr, arith, eq-eqb}
use Rattle.std.proofs.lemmas.Bool.{cases_eq, ne_eqb}
use Rattle.std.proofs.lemmas.Option.{none-some, same_Some}
use Rattle.stride_isa.specs.Changes.{applied}
use Rattle.stride_isa.specs.Listing.{Listing}
use Rattle.sc_machine.specs.declared.stop.Stop.{Stop}
use Rattle.sc_machine.specs.declared.stop.Stop.TheVariants as stops
use Rattle.sc_machine.specs.ThreadStep.{Row, Goes, Ends, Stands, now, stop_in, stop_of}
use Rattle.sc_machine.specs.Machine.{Machine, can, cells_after, put, sc_step, stepped_by, thread_at}
use Rattle.sc_machine.specs.Schedule.{settle, turn, turns}
use Rattle.interleavings.specs.declared.event.Event.{Event}
use Rattle.interleavings.specs.declared.event.Event.TheVariants as events
use Rattle.interleavings.specs.Events.{WriteOf, write_of}
use Rattle.interleavings.specs.RunEvents.{Counts, RunEvent, Reads, Writes, Updates, Enters, Exits, counts_after, event_made, if_made, plain, turn_events}

-- the write that an event of a run makes; an update is a write of its new value
abbrev write_made : RunEvent → Option WriteOf
write_made (Reads cell value) = None
write_made (Writes cell value number) = Some (record { cell = cell; number = number; value = value })
write_made (Updates cell old new number) = Some (record { cell = cell; number = number; value = new })
write_made (Enters monitor turn) = None
write_made (Exits monitor turn) = None

-- one of these events makes the write
abbrev pub HasWrite : List RunEvent → WriteOf → Type 0
HasWrite [] write = ⊥
HasWrite (event ∷ others) write = (write_made event ≡ Some write) ⊎ HasWrite others write

-- a recorded event makes the same write without its bound
plain_write : (event : Event) → write_made (plain event) ≡ write_of event
plain_write (events.Read cell value bound) = refl
plain_write (events.Write cell value number) = refl
plain_write (events.Update cell old new number) = refl
plain_write (events.Enter monitor turn) = refl
plain_write (events.Exit monitor turn) = refl

-- where a write stands among recorded events
pub write_place : (es : List Event) (write : WriteOf) → HasWrite (map plain es) write → (i : ℕ) × (option_and_then write_of (slice_get es i) ≡ Some write)
write_place [] write has = absurd has
write_place (event ∷ es) write (inl is) = (0, sym (plain_write event) ∙ is)
write_place (event ∷ es) write (inr has) = (let found = write_place es write has in (suc found.0, found.1))

pub place_write : (es : List Event) (i : ℕ) (write : WriteOf) → option_and_then write_of (slice_get es i) ≡ Some write → HasWrite (map plain es) write
place_write [] i write is = absurd (none-some write is)
place_write (event ∷ es) zero write is = inl (plain_write event ∙ is)
place_write (event ∷ es) (suc i) write is = inr (place_write es i write is)

-- the event of a turn is among those of its thread
event_first : (event : Option RunEvent) (others : List RunEvent) (write : WriteOf) → option_and_then write_made event ≡ Some write → HasWrite (if_made event others) write
event_first None others write is = absurd (none-some write is)
event_first (Some event) others write is = inl is

-- and so are those of the turns behind it
event_later : (own : Bool) (event : Option RunEvent) (others : List RunEvent) (write : WriteOf) → HasWrite others write → HasWrite (if own then if_made event others else others) write
event_later false event others write has = has
event_later true None others write has = has
event_later true (Some event) others write has = inr has

-- and there are no others
event_either : (own : Bool) (event : Option RunEvent) (others : List RunEvent) (write : WriteOf) → HasWrite (if own then if_made event others else others) write → (option_and_then write_made event ≡ Some write) ⊎ HasWrite others write
event_either false event others write has = inr has
event_either true None others write has = inr has
event_either true (Some event) others write has = has

-- what a turn that makes this write, or none, does to a cell and to the number of its writes
abbrev Changes : ℕ → Option WriteOf → (ℕ → ℕ) → (ℕ → ℕ) → (ℕ → ℕ) → (ℕ → ℕ) → Type 0
Changes cell write cells writes cells' writes' = ((write ≡ Some (record { cell = cell; number = writes cell + 1; value = cells' cell })) × (writes' cell ≡ writes cell + 1)) ⊎ (((number value : ℕ) → write ≡ Some (record { cell = cell; number = number; value = value }) → ⊥) × (cells' cell ≡ cells cell) × (writes' cell ≡ writes cell))

put_other : (f : ℕ → ℕ) (place other value : ℕ) → other ≢ place → put f place value other ≡ f other
put_other f place other value apart = let test : (other == place) ≡ false = ne_eqb other place apart in rw test refl

put_same : (f : ℕ → ℕ) (place value : ℕ) → put f place value place ≡ value
put_same f place value = let test : (place == place) ≡ true = eq-eqb place place refl in rw test refl

-- a write of one cell
by_write : (cell at value : ℕ) (cells writes : ℕ → ℕ) → Changes cell (Some (record { cell = at; number = writes at + 1; value = value })) cells writes (put cells at value) (put writes at (writes at + 1))
by_write cell at value cells writes = elim (cases_eq cell at) [
  | inl same ↦
      let P : ℕ → Type 0 = λ x. Changes x (Some (record { cell = at; number = writes at + 1; value = value })) cells writes (put cells at value) (put writes at (writes at + 1)) in
      let stored : Some (record { cell = at; number = writes at + 1; value = value }) ≡ Some (record { cell = at; number = writes at + 1; value = put cells at value at }) = ap (λ (v : ℕ). Some (record { cell = at; number = writes at + 1; value = v })) (sym (put_same cells at value)) in
      let own : P at = inl (stored, put_same writes at (writes at + 1)) in
      subst P (sym same) own
  | inr apart ↦ inr (
    λ number word is. apart (sym (ap (λ (w : WriteOf). w.cell) (same_Some (record { cell = at; number = writes at + 1; value = value }) (record { cell = cell; number = number; value = word }) is))),
    put_other cells at cell value apart,
    put_other writes at cell (writes at + 1) apart,
  )
]

-- the turn at a stop
by_stop : (stop : Stop) (cell : ℕ) (cells : ℕ → ℕ) (counts : Counts) → Changes cell (option_and_then write_made (event_made stop cells counts)) cells counts.writes (cells_after stop cells) (counts_after stop counts).writes
by_stop (stops.Read at) cell cells counts = inr (λ number value is. none-some _ is, refl, refl)
by_stop (stops.Write at value) cell cells counts = by_write cell at value cells counts.writes
by_stop (stops.Update at change) cell cells counts = by_write cell at (applied change (cells at)) cells counts.writes
by_stop (stops.Enter monitor) cell cells counts = inr (λ number value is. none-some _ is, refl, refl)
by_stop (stops.Exit monitor) cell cells counts = inr (λ number value is. none-some _ is, refl, refl)
by_stop (stops.Ended end) cell cells counts = inr (λ number value is. none-some _ is, refl, refl)

-- this value of the cell is that of the last write among each thread's events, which no write exceeds, or the old value where
-- the writes so far are all
pub record IsLast (cell writes old : ℕ) (told : ℕ → List RunEvent) (value : ℕ) : Type 0 where
  pub number : ℕ
  pub rises : writes ≤ number
  pub stored : ((number ≡ writes) × (value ≡ old)) ⊎ ((t : ℕ) × HasWrite (told t) (record { cell = cell; number = number; value = value }))
  pub greatest : (t other word : ℕ) → HasWrite (told t) (record { cell = cell; number = other; value = word }) → other ≤ number

-- a turn of thread u before others
module _ (cell u : ℕ) (event : Option RunEvent) (cells writes cells' writes' : ℕ → ℕ) (others : ℕ → List RunEvent) (value : ℕ) (rest : IsLast cell (writes' cell) (cells' cell) others value) where
  -- the events with that of the turn
  abbrev told : ℕ → List RunEvent
  told t = if u == t then if_made event (others t) else others t

  -- the write of this number and value
  abbrev write : ℕ → ℕ → WriteOf
  write number stored = record { cell = cell; number = number; value = stored }

  own_first : (w : WriteOf) → option_and_then write_made event ≡ Some w → HasWrite (told u) w
  own_first w is = let test : (u == u) ≡ true = eq-eqb u u refl in rw test (event_first event (others u) w is)

  before_others : Changes cell (option_and_then write_made event) cells writes cells' writes' → IsLast cell (writes cell) (cells cell) told value
  before_others (inl (wrote, more)) = record {
    number = rest.number;
    rises = omega (arith, more, rest.rises);
    stored = elim (rest.stored) [
      | inl old ↦
          let number : writes cell + 1 ≡ rest.number = omega (arith, more, old.0) in
          inr (u, own_first (write rest.number value) (wrote ∙ ap₂ (λ (n v : ℕ). Some (write n v)) number (sym old.1)))
      | inr later ↦ inr (later.0, event_later (u == later.0) event (others later.0) (write rest.number value) later.1)
    ];
    greatest = λ t other word has. elim (event_either (u == t) event (others t) (write other word) has) [
      | inl is ↦
          let same : writes cell + 1 ≡ other = ap (λ (w : WriteOf). w.number) (same_Some (write (writes cell + 1) (cells' cell)) (write other word) (sym wrote ∙ is)) in
          omega (arith, same, more, rest.rises)
      | inr later ↦ rest.greatest t other word later
    ];
  }
  before_others (inr (none, kept, same)) = record {
    number = rest.number;
    rises = omega (arith, same, rest.rises);
    stored = elim (rest.stored) [
      | inl old ↦ inl (old.0 ∙ same, old.1 ∙ kept)
      | inr later ↦ inr (later.0, event_later (u == later.0) event (others later.0) (write rest.number value) later.1)
    ];
    greatest = λ t other word has. elim (event_either (u == t) event (others t) (write other word) has) [
      | inl is ↦ absurd (none other word is)
      | inr later ↦ rest.greatest t other word later
    ];
  }

-- the cells after a turn are those after the instruction at its stop
stepped_cells : (p : Listing) (fuel u : ℕ) (r : Row) (m : Machine) → (stepped_by p fuel u r m).cells ≡ cells_after (stop_in r) m.cells
stepped_cells p fuel u (Goes pc stack locals printed) m = refl
stepped_cells p fuel u (Ends end) m = refl
stepped_cells p fuel u (Stands stop) m = refl

turned_cells : (p : Listing) (fuel u : ℕ) (m : Machine) → (turn p fuel u m).cells ≡ cells_after (stop_of p u (thread_at m u)) m.cells
unfolding turn settle sc_step
turned_cells p fuel u m = stepped_cells p fuel u (now p u (thread_at m u)) m

went : (enabled : Bool) (rest : Option Machine) (last : Machine) → (if enabled then rest else None) ≡ Some last → rest ≡ Some last
went true rest last is = is
went false rest last is = absurd (none-some last is)

-- in the end of these turns
pub turns_last : (p : Listing) (fuel cell : ℕ) (us : List ℕ) (m last : Machine) (counts : Counts) → turns p fuel us m ≡ Some last → IsLast cell (counts.writes cell) (m.cells cell) (λ t. turn_events p fuel t us m counts) (last.cells cell)
unfolding turns turn_events
turns_last p fuel cell [] m last counts is = record {
  number = counts.writes cell;
  rises = omega arith;
  stored = inl (refl, ap (λ (machine : Machine). machine.cells cell) (sym (same_Some m last is)));
  greatest = λ t other word has. absurd has;
}
turns_last p fuel cell (u ∷ us) m last counts is =
    let stop = stop_of p u (thread_at m u) in
    let later = turns_last p fuel cell us (turn p fuel u m) last (counts_after stop counts) (went (can p u m) (turns p fuel us (turn p fuel u m)) last is) in
    let told : ℕ → List RunEvent = λ t. turn_events p fuel t us (turn p fuel u m) (counts_after stop counts) in
    let rest : IsLast cell ((counts_after stop counts).writes cell) (cells_after stop m.cells cell) told (last.cells cell) = subst (λ (cells : ℕ → ℕ). IsLast cell ((counts_after stop counts).writes cell) (cells cell) told (last.cells cell)) (turned_cells p fuel u m) later in
    before_others cell u (event_made stop m.cells counts) m.cells counts.writes (cells_after stop m.cells) (counts_after stop counts).writes told (last.cells cell) rest (by_stop stop cell m.cells counts)

-- The events of threads that were followed are of cells and monitors that the program has.
use Rattle.std.proofs.Common.{◌≡◌, inl, inr, ◌+◌, ◌-◌, ◌*◌, ◌/◌, ◌%◌, ◌^◌, ◌==◌, ◌<◌, ◌≤◌, ℕ, zero, suc, Bool, true, false, if◌then◌else◌, List, [], ◌∷◌, ◌++◌, Option, Some, None, Result, Ok, Err, bit_and, bit_or, nat_lt, refl, sym, ap, subst, arith, length, get_or, map}
use Rattle.std.specs.Prelude.{bit_xor, decimal, slice_get, slice_set}
use Rattle.std.specs.List.{AllByRecursion}
use Rattle.std.proofs.lemmas.Bool.{cases_lt}
use Rattle.std.proofs.lemmas.List.{get_or_past}
use Rattle.std.proofs.lemmas.List.Sums.{sum_by_more_le}
use Rattle.std.proofs.lemmas.Bool.{ltb-true}
use Rattle.stride_isa.specs.Laws.{EachCellStarts}
use Rattle.stride_isa.specs.Listing.{Listing, cell_count, cells_of, code_of, decl_at, first_cell, op_at}
use Rattle.stride_isa.specs.Validity.{IsValid, Names}
use Rattle.stride_isa.specs.declared.change.Change.TheVariants.{Store, Plus, IfEqual}
use Rattle.stride_isa.specs.declared.decl.Decl.{Decl}
use Rattle.stride_isa.specs.declared.decl.Shape.TheVariants as shapes
use Rattle.stride_isa.specs.declared.op.Op.{Op}
use Rattle.stride_isa.specs.declared.op.Op.TheVariants as ops
use Rattle.sc_machine.specs.declared.end.End.{End}
use Rattle.sc_machine.specs.declared.stop.Stop.{Stop}
use Rattle.sc_machine.specs.declared.stop.Stop.TheVariants as stops
use Rattle.sc_machine.specs.declared.stop.Stop.TheVariants.{Read, Write, Update, Enter, Exit, Ended}
use Rattle.sc_machine.specs.declared.trap.Trap.TheVariants.{Again, DivZero, NotHeld}
use Rattle.sc_machine.specs.ThreadStep.{Goes, Row, Stands, Thread, divided, holds, member_cell, next_with, now_unless, on_member, on_top, on_two, row, stop_in, stop_of, traps, truth}
use Rattle.interleavings.specs.declared.event.Event.{Event}
use Rattle.interleavings.specs.declared.event.Event.TheVariants as events
use Rattle.interleavings.specs.declared.event.LogEntry.{LogEntry}
use Rattle.interleavings.specs.EventStep.{after_event}
use Rattle.interleavings.specs.Following.{Divergence, Followed, follow, follow_all, follow_all_from, no_turns, thread_before, turns_after}
use Rattle.interleavings.specs.Laws.{FollowedWalks}
use Rattle.interleavings.specs.TraceLists.{IsInRange, TraceLists, events_of}
use Rattle.interleavings.specs.Walking.{IsMet, Walks}
use Rattle.event_order.specs.Laws.{AreInRange, traces_of}

-- what holds of each element holds of one
each : {X : Type 0} (P : X → Type 0) (xs : List X) (i : ℕ) (x : X) → AllByRecursion P xs → slice_get xs i ≡ Some x → P x
each P [] i x all is = absurd (cc)
each P (y ∷ ys) zero x all is = let same : y ≡ x = (cc) in subst P same all.0
each P (y ∷ ys) (suc i) x all is = each P ys i x all.1 is

-- and of the default past the end
each_or : {X : Type 0} (P : X → Type 0) (xs : List X) (d : X) (i : ℕ) → P d → AllByRecursion P xs → P (get_or xs i d)
each_or P [] d i end all = end
each_or P (y ∷ ys) d zero end all = all.0
each_or P (y ∷ ys) d (suc i) end all = each_or P ys d i end all.1

-- the cell or the monitor that a stop names is one of the program's
abbrev Inside : Listing → Stop → Type 0
Inside p (Read cell) = cell < cell_count p.decls
Inside p (Write cell word) = cell < cell_count p.decls
Inside p (Update cell change) = cell < cell_count p.decls
Inside p (Enter monitor) = monitor < length p.monitors
Inside p (Exit monitor) = monitor < length p.monitors
Inside p (Ended end) = Unit {0}

top_inside : (p : Listing) (stack : List ℕ) (f : ℕ → List ℕ → Row) → ((word : ℕ) (below : List ℕ) → Inside p (stop_in (f word below))) → Inside p (stop_in (on_top stack f))
top_inside p [] f each = each 0 []
top_inside p (word ∷ below) f each = each word below

two_inside : (p : Listing) (stack : List ℕ) (f : ℕ → ℕ → List ℕ → Row) → ((a b : ℕ) (below : List ℕ) → Inside p (stop_in (f a b below))) → Inside p (stop_in (on_two stack f))
two_inside p stack f each =
    top_inside p stack (λ b rest. on_top rest (λ a below. f a b below)) (λ b rest. top_inside p rest (λ a below. f a b below) (λ a below. each a b below))

divided_inside : (p : Listing) (nothing : Bool) (word pc : ℕ) (below locals : List ℕ) → Inside p (stop_in (if nothing then traps DivZero pc else next_with pc (word ∷ below) locals))
divided_inside p true word pc below locals = tt
divided_inside p false word pc below locals = tt

entered_inside : (p : Listing) (held : Bool) (monitor pc : ℕ) → monitor < length p.monitors → Inside p (stop_in (if held then traps Again pc else Stands (Enter monitor)))
entered_inside p true monitor pc there = tt
entered_inside p false monitor pc there = there

left_inside : (p : Listing) (held : Bool) (monitor pc : ℕ) → monitor < length p.monitors → Inside p (stop_in (if held then Stands (Exit monitor) else traps NotHeld pc))
left_inside p true monitor pc there = there
left_inside p false monitor pc there = tt

cells_fit : (p : Listing) (decl : ℕ) → decl < length p.decls → first_cell p.decls decl + cells_of (decl_at p decl).shape ≤ cell_count p.decls
cells_fit p decl there = sum_by_more_le (λ (d : Decl). cells_of d.shape) p.decls decl (record { name = []; shape = shapes.Single; start = 0 }) there

variable_inside : (p : Listing) (decl : ℕ) → decl < length p.decls → (decl_at p decl).shape ≡ shapes.Single → first_cell p.decls decl < cell_count p.decls
variable_inside p decl there single =
    let one : cells_of (decl_at p decl).shape ≡ 1 = ap cells_of single in
    omega (arith, one, cells_fit p decl there)

member_by : (p : Listing) (first index size pc : ℕ) (small : Bool) (stop : ℕ → Stop) → nat_lt index size ≡ small → first + size ≤ cell_count p.decls → ((cell : ℕ) → cell < cell_count p.decls → Inside p (stop cell)) → Inside p (stop_in (on_member (if small then Some (first + index) else None) pc stop))
member_by p first index size pc true stop is fits each = each (first + index) (let below = ltb-true index size is in omega arith)
member_by p first index size pc false stop is fits each = tt

member_inside : (p : Listing) (decl index pc : ℕ) (stop : ℕ → Stop) → decl < length p.decls → ((cell : ℕ) → cell < cell_count p.decls → Inside p (stop cell)) → Inside p (stop_in (on_member (member_cell p decl index) pc stop))
member_inside p decl index pc stop there each =
    member_by p (first_cell p.decls decl) index (cells_of (decl_at p decl).shape) pc (nat_lt index (cells_of (decl_at p decl).shape)) stop refl (cells_fit p decl there) each

-- what an instruction whose names are there stands at is inside
row_inside : (p : Listing) (op : Op) → Names p op → (pc : ℕ) (stack locals : List ℕ) (held : List Bool) → Inside p (stop_in (row p op pc stack locals held))
row_inside p (ops.Push word) names pc stack locals held = tt
row_inside p ops.Dup names pc stack locals held = top_inside p stack (λ a below. next_with pc (a ∷ a ∷ below) locals) (λ a below. tt)
row_inside p ops.Drop names pc stack locals held = top_inside p stack (λ a below. next_with pc below locals) (λ a below. tt)
row_inside p ops.Swap names pc stack locals held = two_inside p stack (λ a b below. next_with pc (a ∷ b ∷ below) locals) (λ a b below. tt)
row_inside p ops.Over names pc stack locals held = two_inside p stack (λ a b below. next_with pc (a ∷ b ∷ a ∷ below) locals) (λ a b below. tt)
row_inside p ops.Add names pc stack locals held = two_inside p stack (λ a b below. next_with pc (((a + b) % 2 ^ 64) ∷ below) locals) (λ a b below. tt)
row_inside p ops.Sub names pc stack locals held = two_inside p stack (λ a b below. next_with pc (((a + (2 ^ 64 - b)) % 2 ^ 64) ∷ below) locals) (λ a b below. tt)
row_inside p ops.Mul names pc stack locals held = two_inside p stack (λ a b below. next_with pc (((a * b) % 2 ^ 64) ∷ below) locals) (λ a b below. tt)
row_inside p ops.Div names pc stack locals held = two_inside p stack (λ a b below. divided b (a / b) pc below locals) (λ a b below. divided_inside p (b == 0) (a / b) pc below locals)
row_inside p ops.Rem names pc stack locals held = two_inside p stack (λ a b below. divided b (a % b) pc below locals) (λ a b below. divided_inside p (b == 0) (a % b) pc below locals)
row_inside p ops.And names pc stack locals held = two_inside p stack (λ a b below. next_with pc (bit_and a b ∷ below) locals) (λ a b below. tt)
row_inside p ops.Or names pc stack locals held = two_inside p stack (λ a b below. next_with pc (bit_or a b ∷ below) locals) (λ a b below. tt)
row_inside p ops.Xor names pc stack locals held = two_inside p stack (λ a b below. next_with pc (bit_xor a b ∷ below) locals) (λ a b below. tt)
row_inside p ops.Shl names pc stack locals held = two_inside p stack (λ a b below. next_with pc (((a * 2 ^ (b % 64)) % 2 ^ 64) ∷ below) locals) (λ a b below. tt)
row_inside p ops.Shr names pc stack locals held = two_inside p stack (λ a b below. next_with pc ((a / 2 ^ (b % 64)) ∷ below) locals) (λ a b below. tt)
row_inside p ops.Eq names pc stack locals held = two_inside p stack (λ a b below. next_with pc (truth (a == b) ∷ below) locals) (λ a b below. tt)
row_inside p ops.Lt names pc stack locals held = two_inside p stack (λ a b below. next_with pc (truth (nat_lt a b) ∷ below) locals) (λ a b below. tt)
row_inside p ops.Not names pc stack locals held = top_inside p stack (λ a below. next_with pc ((2 ^ 64 - 1 - a) ∷ below) locals) (λ a below. tt)
row_inside p (ops.Get local) names pc stack locals held = tt
row_inside p (ops.Set local) names pc stack locals held = top_inside p stack (λ a below. next_with pc below (slice_set locals local a)) (λ a below. tt)
row_inside p (ops.Jump target) names pc stack locals held = tt
row_inside p (ops.Jz target) names pc stack locals held = top_inside p stack (λ a below. Goes (if a == 0 then target else pc + 1) below locals []) (λ a below. tt)
row_inside p (ops.Jnz target) names pc stack locals held = top_inside p stack (λ a below. Goes (if a == 0 then pc + 1 else target) below locals []) (λ a below. tt)
row_inside p (ops.Read decl) names pc stack locals held = variable_inside p decl names.0 names.1
row_inside p (ops.Write decl) names pc stack locals held = top_inside p stack (λ word below. Stands (Write (first_cell p.decls decl) word)) (λ word below. variable_inside p decl names.0 names.1)
row_inside p (ops.ReadAt decl) names pc stack locals held = top_inside p stack (λ index below. on_member (member_cell p decl index) pc (λ cell. Read cell)) (λ index below. member_inside p decl index pc (λ cell. Read cell) names.0 (λ cell inside. inside))
row_inside p (ops.WriteAt decl) names pc stack locals held = two_inside p stack (λ word index below. on_member (member_cell p decl index) pc (λ cell. Write cell word)) (λ word index below. member_inside p decl index pc (λ cell. Write cell word) names.0 (λ cell inside. inside))
row_inside p (ops.Xchg decl) names pc stack locals held = top_inside p stack (λ word below. Stands (Update (first_cell p.decls decl) (Store word))) (λ word below. variable_inside p decl names.0 names.1)
row_inside p (ops.AddTo decl) names pc stack locals held = top_inside p stack (λ word below. Stands (Update (first_cell p.decls decl) (Plus word))) (λ word below. variable_inside p decl names.0 names.1)
row_inside p (ops.Cas decl) names pc stack locals held = two_inside p stack (λ expected new below. Stands (Update (first_cell p.decls decl) (IfEqual expected new))) (λ expected new below. variable_inside p decl names.0 names.1)
row_inside p (ops.Enter monitor) names pc stack locals held = entered_inside p (holds held monitor) monitor pc names
row_inside p (ops.Exit monitor) names pc stack locals held = left_inside p (holds held monitor) monitor pc names
row_inside p ops.Print names pc stack locals held = top_inside p stack (λ word below. Goes (pc + 1) below locals (decimal word ++ 10 ∷ [])) (λ word below. tt)
row_inside p ops.Halt names pc stack locals held = tt

some_code : (codes : List (List Op)) (t at : ℕ) → at < length (get_or codes t []) → t < length codes
some_code [] t at there = absurd (omega arith)
some_code (code ∷ codes) zero at there = omega arith
some_code (code ∷ codes) (suc t) at there = let rest = some_code codes t at there in omega arith

-- the names of each instruction of a valid program are there
named : (p : Listing) → IsValid p → (t at : ℕ) → Names p (op_at p t at)
named p valid t at = elim (cases_lt at (length (code_of p t))) [
  | inl there ↦ valid.names t at (some_code p.threads t at there) there
  | inr past ↦ let P : Op → Type 0 = λ op. Names p op in subst P (sym (get_or_past (code_of p t) at ops.Halt past)) tt
]

unless_inside : (p : Listing) (ended : Option End) (r : Row) → Inside p (stop_in r) → Inside p (stop_in (now_unless ended r))
unless_inside p None r inside = inside
unless_inside p (Some end) r inside = tt

-- where a thread of a valid program stands is inside
stop_inside : (p : Listing) → IsValid p → (t : ℕ) (s : Thread) → Inside p (stop_of p t s)
stop_inside p valid t s = unless_inside p s.ended _ (row_inside p (op_at p t s.pc) (named p valid t s.pc) s.pc s.stack s.locals s.held)

abbrev all_of : List Followed → Result (List Followed) Divergence
all_of all = Ok all

some_ok : (x y : List Followed) → all_of x ≡ all_of y → x ≡ y
some_ok x y e = cc

module _ (walks : FollowedWalks) (p : Listing) (valid : IsValid p) (fuel : ℕ) (some : 1 ≤ fuel) (traces : TraceLists) (cells : length traces.starts ≡ cell_count p.decls) (monitors : traces.monitors ≡ length p.monitors) where
  of_cell : (at cell : ℕ) → at ≡ cell → at < cell_count p.decls → cell < length traces.starts
  of_cell at cell same inside = omega (arith, cells)

  of_monitor : (at monitor : ℕ) → at ≡ monitor → at < length p.monitors → monitor < traces.monitors
  of_monitor at monitor same inside = omega (arith, monitors)

  met_inside : (stop : Stop) (turns : ℕ → ℕ) (event : Event) → Inside p stop → IsMet stop turns event → IsInRange traces event
  met_inside (stops.Read at) turns (events.Read cell value bound) inside met = let same : at ≡ cell = (cc) in of_cell at cell same inside
  met_inside (stops.Read at) turns (events.Write cell value number) inside met = absurd (cc)
  met_inside (stops.Read at) turns (events.Update cell old new number) inside met = absurd (cc)
  met_inside (stops.Read at) turns (events.Enter monitor turn) inside met = absurd (cc)
  met_inside (stops.Read at) turns (events.Exit monitor turn) inside met = absurd (cc)
  met_inside (stops.Write at word) turns (events.Read cell value bound) inside met = absurd (cc)
  met_inside (stops.Write at word) turns (events.Write cell value number) inside met = let same : at ≡ cell = (cc) in of_cell at cell same inside
  met_inside (stops.Write at word) turns (events.Update cell old new number) inside met = absurd (cc)
  met_inside (stops.Write at word) turns (events.Enter monitor turn) inside met = absurd (cc)
  met_inside (stops.Write at word) turns (events.Exit monitor turn) inside met = absurd (cc)
  met_inside (stops.Update at change) turns (events.Read cell value bound) inside met = absurd (cc)
  met_inside (stops.Update at change) turns (events.Write cell value number) inside met = absurd (cc)
  met_inside (stops.Update at change) turns (events.Update cell old new number) inside met = let same : at ≡ cell = (cc) in of_cell at cell same inside
  met_inside (stops.Update at change) turns (events.Enter monitor turn) inside met = absurd (cc)
  met_inside (stops.Update at change) turns (events.Exit monitor turn) inside met = absurd (cc)
  met_inside (stops.Enter at) turns (events.Read cell value bound) inside met = absurd (cc)
  met_inside (stops.Enter at) turns (events.Write cell value number) inside met = absurd (cc)
  met_inside (stops.Enter at) turns (events.Update cell old new number) inside met = absurd (cc)
  met_inside (stops.Enter at) turns (events.Enter monitor turn) inside met = let same : at ≡ monitor = (cc) in of_monitor at monitor same inside
  met_inside (stops.Enter at) turns (events.Exit monitor turn) inside met = absurd (cc)
  met_inside (stops.Exit at) turns (events.Read cell value bound) inside met = absurd (cc)
  met_inside (stops.Exit at) turns (events.Write cell value number) inside met = absurd (cc)
  met_inside (stops.Exit at) turns (events.Update cell old new number) inside met = absurd (cc)
  met_inside (stops.Exit at) turns (events.Enter monitor turn) inside met = absurd (cc)
  met_inside (stops.Exit at) turns (events.Exit monitor turn) inside met = let same : at ≡ monitor = (cc) in of_monitor at monitor same inside
  met_inside (stops.Ended end) turns (events.Read cell value bound) inside met = absurd (cc)
  met_inside (stops.Ended end) turns (events.Write cell value number) inside met = absurd (cc)
  met_inside (stops.Ended end) turns (events.Update cell old new number) inside met = absurd (cc)
  met_inside (stops.Ended end) turns (events.Enter monitor turn) inside met = absurd (cc)
  met_inside (stops.Ended end) turns (events.Exit monitor turn) inside met = absurd (cc)

  walk_inside : (t : ℕ) (es : List Event) (turns : ℕ → ℕ) (s last : Thread) → Walks p fuel t es turns s last → AllByRecursion (IsInRange traces) es
  walk_inside t [] turns s last walk = tt
  walk_inside t (event ∷ es) turns s last walk =
      (met_inside (stop_of p t s) turns event (stop_inside p valid t s) walk.0, walk_inside t es (turns_after event turns) (after_event p fuel t event s) last walk.1)

  -- the events of a thread that was followed are in range
  follow_inside : (t : ℕ) (log : List LogEntry) (f : Followed) → follow p fuel t log ≡ Ok f → AllByRecursion (IsInRange traces) f.events
  follow_inside t log f is = let walk = walks p fuel t log f some is in walk_inside t f.events no_turns _ walk.0 walk.1.walks

  abbrev Ranged : List Followed → Type 0
  Ranged all = AllByRecursion (λ (f : Followed). AllByRecursion (IsInRange traces) f.events) all

  before_inside : (t : ℕ) (first : Result Followed ℕ) (others : Result (List Followed) Divergence) (all : List Followed) → ((f : Followed) → first ≡ Ok f → AllByRecursion (IsInRange traces) f.events) → ((rest : List Followed) → others ≡ Ok rest → Ranged rest) → thread_before t first others ≡ Ok all → Ranged all
  before_inside t (Err place) others all one rest is = absurd (cc)
  before_inside t (Ok f) (Err divergence) all one rest is = absurd (cc)
  before_inside t (Ok f) (Ok others) all one rest is = subst Ranged (some_ok (f ∷ others) all is) (one f refl, rest others refl)

  all_inside : (t threads : ℕ) (logs : List (List LogEntry)) (all : List Followed) → follow_all_from p fuel t threads logs ≡ Ok all → Ranged all
  unfolding follow_all_from
  all_inside t zero [] all is = subst Ranged (some_ok [] all is) tt
  all_inside t zero (log ∷ logs) all is = absurd (cc)
  all_inside t (suc threads) [] all is = absurd (cc)
  all_inside t (suc threads) (log ∷ logs) all is =
      before_inside t (follow p fuel t log) (follow_all_from p fuel (t + 1) threads logs) all (follow_inside t log) (all_inside (t + 1) threads logs) is

ranged_map : (traces : TraceLists) (all : List Followed) → AllByRecursion (λ (f : Followed). AllByRecursion (IsInRange traces) f.events) all → AllByRecursion (λ (es : List Event). AllByRecursion (IsInRange traces) es) (map (λ (f : Followed). f.events) all)
ranged_map traces [] ranged = tt
ranged_map traces (f ∷ all) ranged = (ranged.0, ranged_map traces all ranged.1)

-- the events of all threads of a valid program that were followed are in range
pub followed_in_range : FollowedWalks → EachCellStarts → (p : Listing) → IsValid p → (fuel : ℕ) → 1 ≤ fuel → (logs : List (List LogEntry)) (all : List Followed) → follow_all p fuel logs ≡ Ok all → AreInRange (traces_of p all)
unfolding follow_all
followed_in_range walks starts p valid fuel some logs all is = λ place event met.
    let traces : TraceLists = traces_of p all in
    let P : List Event → Type 0 = λ es. AllByRecursion (IsInRange (traces_of p all)) es in
    let ranged = all_inside walks p valid fuel some (traces_of p all) (starts p.decls) refl 0 (length p.threads) logs all is in
    each (IsInRange (traces_of p all)) (events_of (traces_of p all) place.thread) place.place event (each_or P (map (λ (f : Followed). f.events) all) [] place.thread tt (ranged_map (traces_of p all) all ranged)) met

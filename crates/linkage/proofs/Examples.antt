-- The definitions on small traces.
use Rattle.std.proofs.Common.{◌≡◌, ℕ, zero, suc, ◌<◌, [], ◌∷◌, refl, arith}
use Rattle.std.specs.Prelude.{Option, Some, None}
use Rattle.interleavings.specs.declared.event.Event.TheVariants.{Read, Write, Update, Enter}
use Rattle.interleavings.specs.declared.traces.Place.{Place}
use Rattle.interleavings.specs.TraceLists.{TraceLists}
use Rattle.linkage.specs.declared.link_error.LinkError.TheVariants.{TwiceWritten, TwiceTurned, TurnGap, BoundTooLarge}
use Rattle.linkage.specs.Sources.{event_at, event_count, IsWriteAt, Stored, IsExitAt, IsReadAt, IsUpdateAt}
use Rattle.linkage.specs.Links.{IsLink}
use Rattle.linkage.specs.Refusals.{IsRefused, rank_of}
use Rattle.linkage.proofs.Parts.{same_write}

abbrev place : ℕ → ℕ → Place
place t i = record { thread = t; place = i }

-- a cell that starts with 5, written 7 and 5 again by one thread, updated to 7 by the other, which reads 5 up to number 2
abbrev written : TraceLists
written = record {
  events = (Write 0 7 1 ∷ Write 0 5 2 ∷ []) ∷ (Update 0 5 7 3 ∷ Read 0 5 2 ∷ []) ∷ [];
  starts = 5 ∷ [];
  monitors = 1;
}

-- what is there
all_written : event_count written ≡ 4
all_written = refl

no_third : event_at written (place 0 2) ≡ None
no_third = refl

no_thread : event_at written (place 2 0) ≡ None
no_thread = refl

-- the starting value is write 0, an update is a write of its new value
starting : Stored written 0 0 5
starting = (None, (refl, refl))

second : Stored written 0 2 5
second = (Some (place 0 1), refl)

updated : Stored written 0 3 7
updated = (Some (place 1 0), refl)

-- the read is linked to write 2, not to the starting value, which is equal too
linked : IsLink written 0 5 2 2
linked = record { within = omega arith; equal = second; greatest = λ other below stored. below }

is_read : IsReadAt written (place 1 1) 0 5 2
is_read = record { met = refl; within = refl }

-- an update meets an old value and makes a write; a write that met nothing is no update
is_update : IsUpdateAt written (place 1 0) 0 5 3
is_update = record { met = refl; new = 7; made = refl }

-- number 0 is the starting value's, so a write of number 0 writes it twice
abbrev zero_again : TraceLists
zero_again = record { events = (Write 0 7 0 ∷ []) ∷ []; starts = 5 ∷ []; monitors = 0 }

twice : IsRefused zero_again (TwiceWritten 0 0)
twice = record { one = None; other = Some (place 0 0); differ = λ same. cc; one_value = 5; one_writes = (refl, refl); other_value = 7; other_writes = refl }

-- two threads enter by turns 1 and 2, and nobody leaves
abbrev never_left : TraceLists
never_left = record { events = (Enter 0 1 ∷ []) ∷ (Enter 0 2 ∷ []) ∷ []; starts = []; monitors = 1 }

leaves_at : (t i : ℕ) → IsExitAt never_left (Some (place t i)) 0 1 → ⊥
leaves_at zero zero leaves = absurd (cc)
leaves_at zero (suc i) leaves = absurd (cc)
leaves_at (suc zero) zero leaves = absurd (cc)
leaves_at (suc zero) (suc i) leaves = absurd (cc)
leaves_at (suc (suc t)) i leaves = absurd (cc)

none_leaves : (source : Option Place) → IsExitAt never_left source 0 1 → ⊥
none_leaves None (first, there) = absurd (omega arith)
none_leaves (Some p) leaves = leaves_at p.thread p.place leaves

gap : IsRefused never_left (TurnGap 0 1)
gap = record { missing = none_leaves; greater = 2; above = omega arith; source = Some (place 1 0); enters = refl }

-- turn 0 counts as entered
abbrev turn_zero : TraceLists
turn_zero = record { events = (Enter 0 0 ∷ []) ∷ []; starts = []; monitors = 1 }

entered_twice : IsRefused turn_zero (TwiceTurned 0 0)
entered_twice = record { one = None; other = Some (place 0 0); differ = λ same. cc; one_enters = (refl, omega arith); other_enters = refl }

-- a bound of 1 is above the starting value, the only write of the cell
abbrev read_ahead : TraceLists
read_ahead = record { events = (Read 0 5 1 ∷ Read 0 6 0 ∷ Update 0 6 7 1 ∷ []) ∷ []; starts = 5 ∷ []; monitors = 0 }

written_at : (t i number value : ℕ) → IsWriteAt read_ahead (Some (place t i)) 0 number value → 1 ≡ number
written_at zero zero number value there = absurd (cc)
written_at zero (suc zero) number value there = absurd (cc)
written_at zero (suc (suc zero)) number value there = (same_write _ _ there).1
written_at zero (suc (suc (suc i))) number value there = absurd (cc)
written_at (suc t) i number value there = absurd (cc)

only_two : (number value : ℕ) → Stored read_ahead 0 number value → number < 2
only_two number value (None, (is, there)) = omega arith
only_two number value (Some p, there) = omega (arith, written_at p.thread p.place number value there)

-- the read with bound 1 is equal to the starting value alone
linked_to_start : Stored read_ahead 0 0 5
linked_to_start = (None, (refl, refl))

-- the kind comes before the place
order : rank_of (BoundTooLarge (place 3 4)) ≡ (5, 3, 4)
order = refl

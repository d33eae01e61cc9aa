-- Cores that would differ in one step: what they would record, which can't be linked or ordered, and that no history records it.
use Rattle.std.specs.Prelude.{slice_get}
use Rattle.std.proofs.Common.{◌≡◌, ℕ, zero, suc, ◌+◌, ◌≤◌, List, [], ◌∷◌, Option, Some, None, option_and_then, refl, ap, arith}
use Rattle.std.proofs.lemmas.Option.{none-some, same_Some}
use Rattle.interleavings.specs.declared.event.Event.TheVariants as events
use Rattle.interleavings.specs.declared.kind.Kind.TheVariants as by
use Rattle.interleavings.specs.declared.traces.Place.{Place}
use Rattle.interleavings.specs.Events.{WriteOf, write_of}
use Rattle.interleavings.specs.History.{Step, after, IsHistory}
use Rattle.interleavings.specs.TraceLists.{TraceLists, events_of}
use Rattle.linkage.specs.declared.link_error.LinkError.TheVariants.{NoEqualWrite, UpdateMismatch}
use Rattle.linkage.specs.Refusals.{IsRefused}
use Rattle.linkage.specs.Sources.{IsWriteAt}
use Rattle.event_order.specs.Cycles.{IsCycle}
use Rattle.event_order.specs.DirectOrder.{in_thread, read_of_write, write_after_read}
use Rattle.history_laws.proofs.Examples.{makes, puts}

abbrev place : ℕ → ℕ → Place
place t i = record { thread = t; place = i }

apart : (a b : ℕ) → (a ≡ b → ⊥) → Some a ≡ Some b → ⊥
apart a b differ e = differ (same_Some a b e)

-- thread 1 writes 7 into a cell that holds 0, and thread 0 reads it with bound 0
abbrev early_bound : TraceLists
early_bound = record { events = (events.Read 0 7 0 ∷ []) ∷ (events.Write 0 7 1 ∷ []) ∷ []; starts = 0 ∷ []; monitors = 0 }

early_write : (t i number : ℕ) → option_and_then write_of (slice_get (events_of early_bound t) i) ≡ Some (record { cell = 0; number = number; value = 7 }) → number ≤ 0 → ⊥
early_write zero zero number is le = none-some _ is
early_write zero (suc i) number is le = none-some _ is
early_write (suc zero) zero number is le = (let one : 1 ≡ number = ap (λ (w : WriteOf). w.number) (same_Some _ (record { cell = 0; number = number; value = 7 }) is) in absurd (omega arith))
early_write (suc zero) (suc i) number is le = none-some _ is
early_write (suc (suc t)) i number is le = none-some _ is

early_stored : (source : Option Place) (number : ℕ) → number ≤ 0 → IsWriteAt early_bound source 0 number 7 → ⊥
early_stored None number le is = apart 0 7 (omega arith) is.1
early_stored (Some at) number le is = early_write at.thread at.place number is le

-- no write within the bound stored that value
pub early-refused : IsRefused early_bound (NoEqualWrite (place 0 0))
early-refused = record { cell = 0; value = 7; bound = 0; reads = record { met = refl; within = refl }; none = λ number le there. early_stored there.0 number le there.1 }

-- a read would come to that bound if it loaded the number before the value: these steps, the last of them first, are no history
abbrev number_first : List Step
number_first = makes 0 by.ValueLoad 0 ∷ makes 1 by.Complete 0 ∷ puts 1 0 7 ∷ makes 1 by.Claim 0 ∷ makes 1 by.SeeNumber 0 ∷ makes 0 by.NumberLoad 0 ∷ makes 1 by.Draw 0 ∷ makes 0 by.Draw 0 ∷ []

pub number-not_first : IsHistory (0 ∷ []) number_first → ⊥
unfolding after IsHistory
number-not_first lawful = lawful.1.1.1.1.1.0.begins

-- or if it took half of an odd number: the read of this history is not finished
abbrev odd_number : List Step
odd_number = makes 0 by.NumberLoad 0 ∷ makes 0 by.ValueLoad 0 ∷ puts 1 0 7 ∷ makes 1 by.Claim 0 ∷ makes 1 by.SeeNumber 0 ∷ makes 1 by.Draw 0 ∷ makes 0 by.Draw 0 ∷ []

pub odd-not_finished : ((after (0 ∷ []) odd_number).people 0).activity.events ≡ []
unfolding after
odd-not_finished = refl

-- a number completed before its value is put: thread 0 completes number 1, thread 1 writes 5 as number 2, thread 2 reads it, and
-- only then thread 0 puts its 1, which thread 2 reads
abbrev completed_first : List Step
completed_first =
    makes 2 by.NumberLoad 0 ∷ makes 2 by.ValueLoad 0 ∷ puts 0 0 1 ∷ makes 2 by.NumberLoad 0 ∷ makes 2 by.ValueLoad 0
    ∷ makes 1 by.Complete 0 ∷ puts 1 0 5 ∷ makes 1 by.Claim 0 ∷ makes 1 by.SeeNumber 0
    ∷ makes 0 by.Complete 0 ∷ makes 0 by.Claim 0 ∷ makes 0 by.SeeNumber 0 ∷ makes 2 by.Draw 0 ∷ makes 1 by.Draw 0 ∷ makes 0 by.Draw 0 ∷ []

pub completed-not_first : IsHistory (0 ∷ []) completed_first → ⊥
unfolding after IsHistory
completed-not_first lawful = lawful.1.1.1.1.1.1.1.1.1.0.begins

abbrev backwards : TraceLists
backwards = record { events = (events.Write 0 1 1 ∷ []) ∷ (events.Write 0 5 2 ∷ []) ∷ (events.Read 0 5 2 ∷ events.Read 0 1 2 ∷ []) ∷ []; starts = 0 ∷ []; monitors = 0 }

-- its events with their links have a cycle: the read of 5, the read of 1 behind it, and the write of 5, which is to come after that
pub backwards-cycle : IsCycle backwards ((None ∷ []) ∷ (None ∷ []) ∷ (Some 2 ∷ Some 1 ∷ []) ∷ []) (place 2 0 ∷ place 2 1 ∷ place 1 0 ∷ [])
backwards-cycle = (
  record { first = refl; second = refl; direct = in_thread refl refl },
  (
    record { first = refl; second = refl; direct = write_after_read (record { cell = 0; value = 1 }) 1 (record { cell = 0; number = 2; value = 5 }) refl refl refl refl refl },
    (record { first = refl; second = refl; direct = read_of_write (record { cell = 0; number = 2; value = 5 }) (record { cell = 0; value = 5 }) refl refl refl refl }, tt),
  ),
)

-- an update that adds 5 to a cell that holds 3
abbrev adds_five : List Step
adds_five = makes 0 by.Complete 0 ∷ puts 0 0 8 ∷ makes 0 by.Fetch 0 ∷ makes 0 by.Claim 0 ∷ makes 0 by.SeeNumber 0 ∷ makes 0 by.Draw 0 ∷ []

pub met-three : ((after (3 ∷ []) adds_five).people 0).activity.events ≡ events.Update 0 3 8 1 ∷ []
unfolding after
met-three = refl

-- had it kept what it adds as the old value, no write before it would fit
abbrev met_five : TraceLists
met_five = record { events = (events.Update 0 5 8 1 ∷ []) ∷ []; starts = 3 ∷ []; monitors = 0 }

five_write : (t i below : ℕ) → option_and_then write_of (slice_get (events_of met_five t) i) ≡ Some (record { cell = 0; number = below; value = 5 }) → below + 1 ≡ 1 → ⊥
five_write zero zero below is one = (let other : 1 ≡ below = ap (λ (w : WriteOf). w.number) (same_Some _ (record { cell = 0; number = below; value = 5 }) is) in absurd (omega arith))
five_write zero (suc i) below is one = none-some _ is
five_write (suc t) i below is one = none-some _ is

five_stored : (source : Option Place) (below : ℕ) → below + 1 ≡ 1 → IsWriteAt met_five source 0 below 5 → ⊥
five_stored None below one is = apart 3 5 (omega arith) is.1
five_stored (Some at) below one is = five_write at.thread at.place below is one

pub five-refused : IsRefused met_five (UpdateMismatch (place 0 0))
five-refused = record { cell = 0; old = 5; number = 1; updates = record { met = refl; new = 8; made = refl }; none = λ below one there. five_stored there.0 below one there.1 }

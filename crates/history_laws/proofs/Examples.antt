-- Histories worked by hand: what they come to, that the laws speak of them, and what the laws cannot do without.
use Rattle.std.specs.Prelude.{slice_get}
use Rattle.std.proofs.Common.{◌≡◌, ℕ, zero, suc, ◌<◌, ◌≤◌, List, [], ◌∷◌, Option, Some, None, option_and_then, refl, sym, ap, subst, inl, inr, arith}
use Rattle.std.proofs.lemmas.Option.{none-some}
use Rattle.interleavings.specs.declared.event.Event.{Event}
use Rattle.interleavings.specs.declared.event.Event.TheVariants as events
use Rattle.interleavings.specs.declared.kind.Kind.{Kind}
use Rattle.interleavings.specs.declared.kind.Kind.TheVariants as by
use Rattle.interleavings.specs.declared.traces.Place.{Place}
use Rattle.interleavings.specs.Events.{write_of}
use Rattle.interleavings.specs.History.{Person, Step, newcomer, after, IsHistory}
use Rattle.interleavings.specs.Recording.{Among, IsAtRest}
use Rattle.interleavings.specs.TraceLists.{TraceLists, IsInRange, events_of}
use Rattle.linkage.specs.declared.link_error.LinkError.TheVariants.{BoundTooLarge}
use Rattle.linkage.specs.Refusals.{IsRefused}
use Rattle.linkage.specs.Sources.{IsWriteAt}
use Rattle.event_order.specs.Laws.{AreInRange}
use Rattle.histories.specs.Laws.{StrangersAreNewcomers}
use Rattle.history_laws.specs.HistoryEvents.{AreEventsOf}

-- a step that stores nothing
abbrev pub makes : ℕ → Kind → ℕ → Step
makes who kind at = record { who = who; kind = kind; at = at; value = 0 }

-- a step that puts a value
abbrev pub puts : ℕ → ℕ → ℕ → Step
puts who at value = record { who = who; kind = by.Put; at = at; value = value }

-- thread 0 reads cell 0 while thread 1 writes 7 into it; the last step stands first
abbrev read_meanwhile : List Step
read_meanwhile =
    makes 0 by.NumberLoad 0 ∷ makes 1 by.Complete 0 ∷ makes 0 by.NumberLoad 0 ∷ makes 0 by.ValueLoad 0
    ∷ puts 1 0 7 ∷ makes 1 by.Claim 0 ∷ makes 1 by.SeeNumber 0 ∷ makes 1 by.Draw 0 ∷ makes 0 by.Draw 0 ∷ []

-- its events: the read waited for the write, and its bound counts it
abbrev read_of_seven : TraceLists
read_of_seven = record { events = (events.Read 0 7 1 ∷ []) ∷ (events.Write 0 7 1 ∷ []) ∷ []; starts = 0 ∷ []; monitors = 0 }

-- each step is lawful
meanwhile_lawful : IsHistory (0 ∷ []) read_meanwhile
unfolding after IsHistory
meanwhile_lawful = (
  record { begins = refl; suits = tt },
  (
    record { begins = refl; suits = tt },
    (
      record { begins = refl; suits = tt },
      (
        record { begins = tt; suits = refl },
        (record { begins = refl; suits = tt }, (record { begins = refl; suits = tt }, (record { begins = tt; suits = refl }, (record { begins = tt; suits = refl }, (record { begins = tt; suits = refl }, tt))))),
      ),
    ),
  ),
)

-- no thread but those below this number makes a step
abbrev AreBelow : ℕ → List Step → Type 0
AreBelow threads [] = Unit {0}
AreBelow threads (s ∷ steps) = (s.who < threads) × AreBelow threads steps

below_each : (threads : ℕ) (s : Step) (steps : List Step) → AreBelow threads steps → Among s steps → s.who < threads
below_each threads s [] are among = absurd among
below_each threads s (first ∷ steps) are (inl same) = omega (arith, are.0, ap (λ (x : Step). x.who) same)
below_each threads s (first ∷ steps) are (inr among) = below_each threads s steps are.1 among

-- a thread past those is a newcomer
past_all : StrangersAreNewcomers → (threads : ℕ) (starts : List ℕ) (steps : List Step) (t : ℕ) → AreBelow threads steps → threads ≤ t → (after starts steps).people t ≡ newcomer
past_all strangers threads starts steps t are past = strangers starts steps t (λ s among same. (let less = below_each threads s steps are among in absurd (omega (arith, same))))

two_below : AreBelow 2 read_meanwhile
two_below = (omega arith, (omega arith, (omega arith, (omega arith, (omega arith, (omega arith, (omega arith, (omega arith, (omega arith, tt)))))))))

-- what the definitions say of it
meanwhile_events : StrangersAreNewcomers → (t : ℕ) → events_of read_of_seven t ≡ ((after (0 ∷ []) read_meanwhile).people t).activity.events
unfolding after
meanwhile_events strangers zero = refl
meanwhile_events strangers (suc zero) = refl
meanwhile_events strangers (suc (suc t)) = sym (ap (λ (p : Person). p.activity.events) (past_all strangers 2 (0 ∷ []) read_meanwhile (suc (suc t)) two_below (omega arith)))

meanwhile_rests : StrangersAreNewcomers → (t : ℕ) → IsAtRest ((after (0 ∷ []) read_meanwhile).people t).activity.phase
unfolding after
meanwhile_rests strangers zero = tt
meanwhile_rests strangers (suc zero) = tt
meanwhile_rests strangers (suc (suc t)) = subst (λ (p : Person). IsAtRest p.activity.phase) (sym (past_all strangers 2 (0 ∷ []) read_meanwhile (suc (suc t)) two_below (omega arith))) tt

-- an event, if there is one, is in range
abbrev IsInRangeIf : TraceLists → Option Event → Type 0
IsInRangeIf traces None = Unit {0}
IsInRangeIf traces (Some event) = IsInRange traces event

meanwhile_place : (t i : ℕ) → IsInRangeIf read_of_seven (slice_get (events_of read_of_seven t) i)
meanwhile_place zero zero = omega arith
meanwhile_place zero (suc i) = tt
meanwhile_place (suc zero) zero = omega arith
meanwhile_place (suc zero) (suc i) = tt
meanwhile_place (suc (suc t)) i = tt

meanwhile_range : AreInRange read_of_seven
meanwhile_range at event there = subst (λ (o : Option Event). IsInRangeIf read_of_seven o) there (meanwhile_place at.thread at.place)

-- the laws speak of it
pub meanwhile-are : StrangersAreNewcomers → AreEventsOf read_meanwhile read_of_seven
meanwhile-are strangers = record { lawful = meanwhile_lawful; at_rest = meanwhile_rests strangers; events = meanwhile_events strangers; range = meanwhile_range }

-- two threads update a cell and enter a monitor, one after the other; the second had looked before the first entered, and looks
-- again
abbrev taking_turns : List Step
taking_turns =
    makes 1 by.Leave 0 ∷ makes 1 by.Complete 0 ∷ puts 1 0 6 ∷ makes 1 by.Fetch 0 ∷ makes 1 by.Claim 0 ∷ makes 1 by.SeeNumber 0 ∷ makes 1 by.Enter 0 ∷ makes 1 by.Look 0
    ∷ makes 0 by.Leave 0 ∷ makes 1 by.Enter 0 ∷ makes 0 by.Complete 0 ∷ puts 0 0 5 ∷ makes 0 by.Fetch 0 ∷ makes 0 by.Claim 0 ∷ makes 0 by.SeeNumber 0 ∷ makes 0 by.Enter 0
    ∷ makes 1 by.Look 0 ∷ makes 0 by.Look 0 ∷ makes 1 by.Draw 0 ∷ makes 0 by.Draw 0 ∷ []

-- the first met the starting value, and the second what the first put
turns_of_first : ((after (3 ∷ []) taking_turns).people 0).activity.events ≡ events.Enter 0 1 ∷ events.Update 0 3 5 1 ∷ events.Exit 0 1 ∷ []
unfolding after
turns_of_first = refl

turns_of_second : ((after (3 ∷ []) taking_turns).people 1).activity.events ≡ events.Enter 0 2 ∷ events.Update 0 5 6 2 ∷ events.Exit 0 2 ∷ []
unfolding after
turns_of_second = refl

-- a cell that is not there can be read in a history, and its read is refused: the laws ask that each event is in range
abbrev read_of_nothing : List Step
read_of_nothing = makes 0 by.NumberLoad 0 ∷ makes 0 by.ValueLoad 0 ∷ makes 0 by.Draw 0 ∷ []

abbrev read_past_all : TraceLists
read_past_all = record { events = (events.Read 0 0 0 ∷ []) ∷ []; starts = []; monitors = 0 }

nothing_lawful : IsHistory [] read_of_nothing
unfolding after IsHistory
nothing_lawful = (record { begins = refl; suits = tt }, (record { begins = tt; suits = refl }, (record { begins = tt; suits = refl }, tt)))

nothing_event : events_of read_past_all 0 ≡ ((after [] read_of_nothing).people 0).activity.events
unfolding after
nothing_event = refl

nothing_written : (source : Option Place) (number value : ℕ) → IsWriteAt read_past_all source 0 number value → ⊥
nothing_written None number value is = none-some value is.1
nothing_written (Some at) number value is = no_write at.thread at.place number value is
  where
    no_write : (t i number value : ℕ) → option_and_then write_of (slice_get (events_of read_past_all t) i) ≡ Some (record { cell = 0; number = number; value = value }) → ⊥
    no_write zero zero number value is = none-some _ is
    no_write zero (suc i) number value is = none-some _ is
    no_write (suc t) i number value is = none-some _ is

pub nothing-refused : IsRefused read_past_all (BoundTooLarge (record { thread = 0; place = 0 }))
nothing-refused = record { cell = 0; value = 0; bound = 0; reads = record { met = refl; within = refl }; above = λ number stored there. absurd (nothing_written there.0 number stored there.1) }

-- Following: each thread run again by its code, where its log answers its shared instructions.
use Rattle.std.specs.Prelude.{ℕ, zero, suc, ◌+◌, ◌==◌, if◌then◌else◌, List, [], ◌∷◌, length, Option, Some, None, Result, Ok, Err, slice_get}
use Rattle.stride_isa.specs.Changes.{applied}
use Rattle.stride_isa.specs.Listing.{Listing}
use Rattle.stride_isa.specs.declared.change.Change.{Change}
use Rattle.sc_machine.specs.declared.stop.Stop.{Stop}
use Rattle.sc_machine.specs.declared.stop.Stop.TheVariants as stops
use Rattle.sc_machine.specs.Schedule.{stopped}
use Rattle.sc_machine.specs.ThreadStep.{Thread, start_thread, settled, stop_of}
use Rattle.interleavings.specs.declared.event.Event.{Event}
use Rattle.interleavings.specs.declared.event.Event.TheVariants as events
use Rattle.interleavings.specs.declared.event.LogEntry.{LogEntry}
use Rattle.interleavings.specs.declared.event.LogEntry.TheVariants as entries
use Rattle.interleavings.specs.Events.{TurnOf, entry_of, entered_by}
use Rattle.interleavings.specs.EventStep.{after_event}

-- what comes of where a thread stands and of the next entry of its log: it makes an event, it makes none and is over, or
-- the entry is none that it can use there
pub data Met : Type 0 where
  Makes : Event → Met
  Over : Met
  Off : Met

-- what a read comes to, by the next entry
abbrev pub read_met : ℕ → LogEntry → Met
read_met cell (entries.Read bound value) = Makes (events.Read cell value bound)
read_met cell (entries.Write number) = Off
read_met cell (entries.Update number old) = Off
read_met cell (entries.Enter turn) = Off

-- what a write comes to
abbrev pub write_met : ℕ → ℕ → LogEntry → Met
write_met cell value (entries.Read bound read) = Off
write_met cell value (entries.Write number) = Makes (events.Write cell value number)
write_met cell value (entries.Update number old) = Off
write_met cell value (entries.Enter turn) = Off

-- what an update comes to: the entry tells the old value, and the change the new one
abbrev pub update_met : ℕ → Change → LogEntry → Met
update_met cell change (entries.Read bound value) = Off
update_met cell change (entries.Write number) = Off
update_met cell change (entries.Update number old) = Makes (events.Update cell old (applied change old) number)
update_met cell change (entries.Enter turn) = Off

-- what an entry into a monitor comes to
abbrev pub enter_met : ℕ → LogEntry → Met
enter_met monitor (entries.Read bound value) = Off
enter_met monitor (entries.Write number) = Off
enter_met monitor (entries.Update number old) = Off
enter_met monitor (entries.Enter turn) = Makes (events.Enter monitor turn)

-- what the next entry comes to, and that the thread is over where there is none
abbrev pub if_next : Option LogEntry → (LogEntry → Met) → Met
if_next None meet = Over
if_next (Some entry) meet = meet entry

-- what is met, given of each monitor the turn of this thread's last entry into it; an exit uses no entry
abbrev pub met_of : Stop → Option LogEntry → (ℕ → ℕ) → Met
met_of (stops.Read cell) next turns = if_next next (read_met cell)
met_of (stops.Write cell value) next turns = if_next next (write_met cell value)
met_of (stops.Update cell change) next turns = if_next next (update_met cell change)
met_of (stops.Enter monitor) next turns = if_next next (enter_met monitor)
met_of (stops.Exit monitor) next turns = Makes (events.Exit monitor (turns monitor))
met_of (stops.Ended end) next turns = if_next next (λ entry. Off)

-- the place of the next entry after an entry was used, or after none was
abbrev pub place_from : Option LogEntry → ℕ → ℕ
place_from None place = place
place_from (Some entry) place = place + 1

-- the place of the next entry after an event
abbrev pub place_after : Event → ℕ → ℕ
place_after event place = place_from (entry_of event) place

-- the turns after a turn is begun, or after none is
abbrev pub turns_from : Option TurnOf → (ℕ → ℕ) → ℕ → ℕ
turns_from None turns = turns
turns_from (Some begun) turns = λ m. if m == begun.monitor then begun.turn else turns m

-- the turns after an event
abbrev pub turns_after : Event → (ℕ → ℕ) → ℕ → ℕ
turns_after event turns = turns_from (entered_by event) turns

-- no monitor was entered yet
abbrev pub no_turns : ℕ → ℕ
no_turns monitor = 0

-- a thread that was run again: its events, and how it was left
pub record Followed : Type 0 where
  pub events : List Event
  pub thread : Thread

-- one more event before the others
abbrev pub event_before : Event → Result Followed ℕ → Result Followed ℕ
event_before event (Ok rest) = Ok (record rest { events = event ∷ rest.events })
event_before event (Err place) = Err place

-- what following comes to from here, by what is met: the place of the entry, how the thread is left, and what it comes to
-- after an event
abbrev pub on_met : ℕ → Thread → (Event → Result Followed ℕ) → Met → Result Followed ℕ
on_met place s follow Over = Ok (record { events = []; thread = stopped s })
on_met place s follow Off = Err place
on_met place s follow (Makes event) = event_before event (follow event)

-- the thread from where it stands, with this place in its log; n bounds the number of events
unfoldable pub follow_from : Listing → ℕ → ℕ → List LogEntry → ℕ → ℕ → (ℕ → ℕ) → Thread → Result Followed ℕ
follow_from p fuel t log zero place turns s = Ok (record { events = []; thread = stopped s })
follow_from p fuel t log (suc n) place turns s =
    on_met place s (λ event. follow_from p fuel t log n (place_after event place) (turns_after event turns) (after_event p fuel t event s)) (met_of (stop_of p t s) (slice_get log place) turns)

-- the thread run again from its start by its log, or the place of the first entry that it can't use. Each event is an
-- instruction, so there are at most as many as the fuel
unfoldable pub follow : Listing → ℕ → ℕ → List LogEntry → Result Followed ℕ
follow p fuel t log = follow_from p fuel t log (fuel + 1) 0 no_turns (settled p fuel t start_thread)

-- where a program and its logs part: the thread, and the place in its log
pub record Divergence : Type 0 where
  pub thread : ℕ
  pub place : ℕ

-- what one thread comes to, before what the threads after it do
abbrev pub thread_before : ℕ → Result Followed ℕ → Result (List Followed) Divergence → Result (List Followed) Divergence
thread_before t (Err place) others = Err (record { thread = t; place = place })
thread_before t (Ok first) (Err divergence) = Err divergence
thread_before t (Ok first) (Ok others) = Ok (first ∷ others)

-- so many threads from this number on, each by its log; a thread without a log, and a log without a thread, part at its
-- place 0
unfoldable pub follow_all_from : Listing → ℕ → ℕ → ℕ → List (List LogEntry) → Result (List Followed) Divergence
follow_all_from p fuel t zero [] = Ok []
follow_all_from p fuel t zero (log ∷ logs) = Err (record { thread = t; place = 0 })
follow_all_from p fuel t (suc threads) [] = Err (record { thread = t; place = 0 })
follow_all_from p fuel t (suc threads) (log ∷ logs) = thread_before t (follow p fuel t log) (follow_all_from p fuel (t + 1) threads logs)

-- all threads of the program, each by its log, or where the least thread that does parts from its log
unfoldable pub follow_all : Listing → ℕ → List (List LogEntry) → Result (List Followed) Divergence
follow_all p fuel logs = follow_all_from p fuel 0 (length p.threads) logs

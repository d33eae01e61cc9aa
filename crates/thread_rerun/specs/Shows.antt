-- What the code keeps and answers, beside what following says. Only private clauses cite this module.
use Rattle.std.specs.Prelude.{◌≡◌, ℕ, ◌+◌, ◌-◌, ◌<◌, ◌≤◌, List, [], ◌∷◌, ◌++◌, length, map, drop, replicate, Option, Some, None, Result, Ok, Err, slice_index, slice_set}
use Rattle.stride_isa.specs.Limits.{monitor_limit}
use Rattle.stride_isa.specs.Changes.{applied}
use Rattle.stride_isa.specs.declared.change.Change.{Change}
use Rattle.stride_isa.specs.Listing.{Listing, cell_count, starts_of}
use Rattle.sc_machine.specs.declared.stop.Stop.{Stop}
use Rattle.sc_machine.specs.declared.stop.Stop.TheVariants as stops
use Rattle.sc_machine.specs.ThreadStep.{end_of}
use Rattle.sc_machine.specs.StandingThread.{IsThreadOf, standing_after}
use Rattle.sc_machine.specs.Schedule.{stopped}
use Rattle.interleavings.specs.declared.event.Event.{Event}
use Rattle.interleavings.specs.declared.event.Event.TheVariants as events
use Rattle.interleavings.specs.declared.event.LogEntry.{LogEntry}
use Rattle.interleavings.specs.Events.{TurnOf, entered_by, word_given}
use Rattle.interleavings.specs.TraceLists.{TraceLists, events_of}
use Rattle.interleavings.specs.Following.{Met, Makes, Over, Off, Divergence, Followed, follow, follow_all, follow_all_from, follow_from, place_after, turns_after}
use Rattle.thread_rerun.specs.Rerunning.{Again, rerun_seen}
use Rattle.thread_rerun.specs.declared.outcome.Rerun.{Rerun}
use Rattle.thread_rerun.specs.declared.follower.Follower.{Follower}
use Rattle.thread_rerun.specs.declared.meeting.Met.{Met as Told}
use Rattle.thread_rerun.specs.declared.meeting.Met.TheVariants as told
use Rattle.thread_rerun.specs.declared.rerun_error.RerunError.{RerunError}
use Rattle.thread_rerun.specs.declared.rerun_error.RerunError.TheVariants.{Diverges, NoMemory}

-- what is met, as the code tells it
abbrev pub seen_met : Met → Told
seen_met (Makes event) = told.Makes event
seen_met Over = told.Over
seen_met Off = told.Off

-- an exit names a monitor that a program can have
abbrev pub HasMonitor : Stop → Type 0
HasMonitor (stops.Read cell) = Unit {0}
HasMonitor (stops.Write cell value) = Unit {0}
HasMonitor (stops.Update cell change) = Unit {0}
HasMonitor (stops.Enter monitor) = Unit {0}
HasMonitor (stops.Exit monitor) = monitor < monitor_limit
HasMonitor (stops.Ended end) = Unit {0}

-- a turn that is begun is of a monitor that a program can have
abbrev pub IsBelow : Option TurnOf → Type 0
IsBelow None = Unit {0}
IsBelow (Some begun) = begun.monitor < monitor_limit

-- an entry names a monitor that a program can have
abbrev pub MonitorBelow : Event → Type 0
MonitorBelow event = IsBelow (entered_by event)

-- the event is a read of this cell
abbrev pub IsReadOf : ℕ → Event → Type 0
IsReadOf at (events.Read cell value bound) = cell ≡ at
IsReadOf at (events.Write cell value number) = ⊥
IsReadOf at (events.Update cell old new number) = ⊥
IsReadOf at (events.Enter monitor turn) = ⊥
IsReadOf at (events.Exit monitor turn) = ⊥

-- a write of this word into it
abbrev pub IsWriteOf : ℕ → ℕ → Event → Type 0
IsWriteOf at word (events.Read cell value bound) = ⊥
IsWriteOf at word (events.Write cell value number) = (cell ≡ at) × (value ≡ word)
IsWriteOf at word (events.Update cell old new number) = ⊥
IsWriteOf at word (events.Enter monitor turn) = ⊥
IsWriteOf at word (events.Exit monitor turn) = ⊥

-- an update of it by this change
abbrev pub IsUpdateOf : ℕ → Change → Event → Type 0
IsUpdateOf at change (events.Read cell value bound) = ⊥
IsUpdateOf at change (events.Write cell value number) = ⊥
IsUpdateOf at change (events.Update cell old new number) = (cell ≡ at) × (new ≡ applied change old)
IsUpdateOf at change (events.Enter monitor turn) = ⊥
IsUpdateOf at change (events.Exit monitor turn) = ⊥

-- an entry into this monitor
abbrev pub IsEnterOf : ℕ → Event → Type 0
IsEnterOf at (events.Read cell value bound) = ⊥
IsEnterOf at (events.Write cell value number) = ⊥
IsEnterOf at (events.Update cell old new number) = ⊥
IsEnterOf at (events.Enter monitor turn) = monitor ≡ at
IsEnterOf at (events.Exit monitor turn) = ⊥

-- an exit from it
abbrev pub IsExitOf : ℕ → Event → Type 0
IsExitOf at (events.Read cell value bound) = ⊥
IsExitOf at (events.Write cell value number) = ⊥
IsExitOf at (events.Update cell old new number) = ⊥
IsExitOf at (events.Enter monitor turn) = ⊥
IsExitOf at (events.Exit monitor turn) = monitor ≡ at

-- the event is one of this shared instruction
abbrev pub Suits : Stop → Event → Type 0
Suits (stops.Read at) event = IsReadOf at event
Suits (stops.Write at word) event = IsWriteOf at word event
Suits (stops.Update at change) event = IsUpdateOf at change event
Suits (stops.Enter at) event = IsEnterOf at event
Suits (stops.Exit at) event = IsExitOf at event
Suits (stops.Ended end) event = ⊥

-- an event that is met is one of the shared instruction
abbrev pub Fits : Stop → Told → Type 0
Fits stop (told.Makes event) = Suits stop event
Fits stop told.Over = Unit {0}
Fits stop told.Off = Unit {0}

-- the turn of the last entry into each monitor
abbrev pub turns_in : Follower → ℕ → ℕ
turns_in f m = slice_index f.turns m

-- no monitor was entered yet
abbrev pub no_turns : ℕ → ℕ
no_turns m = 0

-- the follower has gone on after this event
pub record IsGone (old new : Follower) (event : Event) : Type 0 where
  pub thread : new.thread ≡ standing_after (word_given event) old.thread
  pub place : new.place ≡ place_after event old.place
  pub turns : turns_in new ≡ turns_after event (turns_in old)

-- the traces are of a program with these cells and monitors
pub record IsOfProgram (p : Listing) (traces : TraceLists) : Type 0 where
  pub cells : length traces.starts ≡ cell_count p.decls
  pub monitors : traces.monitors ≡ length p.monitors

-- the traces with these events of a thread besides
abbrev pub with_events : TraceLists → ℕ → List Event → TraceLists
with_events traces t es = record traces { events = slice_set traces.events t (events_of traces t ++ es) }

-- what following comes to from where the follower stands
abbrev pub following : Follower → List LogEntry → ℕ → Result Followed ℕ
following f log t = follow_from f.thread.program f.thread.fuel t log (f.thread.fuel + 1) f.place (turns_in f) f.thread.state

-- the thread was run to its end, and its events were appended
pub record IsOver (old new : Follower) (log : List LogEntry) (t : ℕ) (before after : TraceLists) : Type 0 where
  pub followed : Followed
  pub is_followed : following old log t ≡ Ok followed
  pub traces : after ≡ with_events before t followed.events
  pub thread : stopped new.thread.state ≡ followed.thread

-- what running a thread again comes to
abbrev pub Comes : Follower → Follower → List LogEntry → ℕ → TraceLists → TraceLists → Result (Unit {0}) RerunError → Type 0
Comes old new log t before after (Ok done) = IsOver old new log t before after
Comes old new log t before after (Err (Diverges thread place)) = (thread ≡ t) × (following old log t ≡ Err place)
Comes old new log t before after (Err NoMemory) = Unit {0}

-- these events before what following comes to
abbrev pub events_before : List Event → Result Followed ℕ → Result Followed ℕ
events_before es (Ok rest) = Ok (record rest { events = es ++ rest.events })
events_before es (Err place) = Err place

-- half way: what following comes to is the events so far before what it comes to from here, for more events than there is
-- fuel for
pub record Going (old half : Follower) (log : List LogEntry) (t : ℕ) (before now : TraceLists) : Type 0 where
  pub is_thread : IsThreadOf old.thread.program old.thread.fuel t half.thread
  pub place : half.place ≤ half.thread.state.made
  pub low : half.place ≤ old.thread.fuel
  pub n : ℕ
  pub enough : old.thread.fuel - half.thread.state.made < n
  pub so_far : List Event
  pub traces : now ≡ with_events before t so_far
  pub few : length (events_of before t) + length so_far ≤ half.thread.state.made
  pub whole : following old log t ≡ events_before so_far (follow_from old.thread.program old.thread.fuel t log n half.place (turns_in half) half.thread.state)

-- the traces are of the program, and this thread has no events yet
pub record HasRoomFor (p : Listing) (t : ℕ) (traces : TraceLists) : Type 0 where
  pub of_program : IsOfProgram p traces
  pub inside : t < length traces.events
  pub none_yet : events_of traces t ≡ []

-- what one thread did is appended
pub record IsAppended (p : Listing) (fuel t : ℕ) (log : List LogEntry) (old new : Again) : Type 0 where
  pub followed : Followed
  pub is_followed : follow p fuel t log ≡ Ok followed
  pub traces : new.traces ≡ with_events old.traces t followed.events
  pub outputs : new.outputs ≡ old.outputs ++ followed.thread.out ∷ []
  pub ends : new.ends ≡ old.ends ++ end_of followed.thread ∷ []

-- what running one thread again comes to
abbrev pub ThreadComes : Listing → ℕ → ℕ → List LogEntry → Rerun → Rerun → Result (Unit {0}) RerunError → Type 0
ThreadComes p fuel t log old new (Ok done) = IsAppended p fuel t log (rerun_seen old) (rerun_seen new)
ThreadComes p fuel t log old new (Err (Diverges thread place)) = (thread ≡ t) × (follow p fuel t log ≡ Err place)
ThreadComes p fuel t log old new (Err NoMemory) = Unit {0}

-- these threads before what following comes to for the others
abbrev pub threads_before : List Followed → Result (List Followed) Divergence → Result (List Followed) Divergence
threads_before done (Ok others) = Ok (done ++ others)
threads_before done (Err divergence) = Err divergence

-- the traces of these threads, and of so many that have no events yet
abbrev pub traces_at : Listing → List Followed → ℕ → TraceLists
traces_at p done left = record { events = map (λ (f : Followed). f.events) done ++ replicate left []; starts = starts_of p.decls; monitors = length p.monitors }

-- the threads below this number were run again
pub record AtThread (p : Listing) (fuel : ℕ) (logs : List (List LogEntry)) (t : ℕ) (r : Rerun) : Type 0 where
  pub done : List Followed
  pub count : length done ≡ t
  pub traces : r.traces ≡ traces_at p done (length p.threads - t)
  pub outputs : (rerun_seen r).outputs ≡ map (λ (f : Followed). f.thread.out) done
  pub ends : r.ends.items ≡ map (λ (f : Followed). end_of f.thread) done
  pub whole : follow_all p fuel logs ≡ threads_before done (follow_all_from p fuel t (length p.threads - t) (drop t logs))

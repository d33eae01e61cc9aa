-- What holds of the events of every history, of any length and any number of threads, cells and monitors, and of every
-- recording.
use Rattle.std.specs.Prelude.{ℕ, ◌≤◌, List}
use Rattle.stride_isa.specs.Validity.{IsValid}
use Rattle.sc_machine.specs.Machine.{Machine}
use Rattle.interleavings.specs.declared.traces.Place.{Place}
use Rattle.interleavings.specs.History.{Step}
use Rattle.interleavings.specs.Recording.{Recording, Setting, IsFollowed, IsHistoryOf, IsRecording}
use Rattle.interleavings.specs.TraceLists.{TraceLists}
use Rattle.linkage.specs.declared.link_error.LinkError.{LinkError}
use Rattle.linkage.specs.Answers.{IsWhole}
use Rattle.linkage.specs.Links.{IsLinked}
use Rattle.linkage.specs.Refusals.{IsRefused}
use Rattle.event_order.specs.Cycles.{IsCycle}
use Rattle.event_order.specs.DirectOrder.{LinkRows}
use Rattle.event_order.specs.Laws.{AreInRange, traces_of}
use Rattle.event_order.specs.Least.{IsLeast}
use Rattle.history_laws.specs.HistoryEvents.{AreEventsOf}
use Rattle.history_laws.specs.RecordedRuns.{IsScheduleOf, IsReplayOf}

-- nothing about the links of the events of a history is refused
abbrev pub HistoriesAreLinked : Type 0
HistoriesAreLinked = (steps : List Step) (traces : TraceLists) → AreEventsOf steps traces → (refusal : LinkError) → IsRefused traces refusal → ⊥

-- the direct order of the events of a history has no cycle
abbrev pub HistoriesAreOrdered : Type 0
HistoriesAreOrdered = (steps : List Step) (traces : TraceLists) (links : LinkRows) → AreEventsOf steps traces → IsLinked traces links → (cycle : List Place) → IsCycle traces links cycle → ⊥

-- the events of a history have links, of which nothing is refused, and a least schedule
abbrev pub HistoriesHaveOrders : Type 0
HistoriesHaveOrders = (steps : List Step) (traces : TraceLists) → AreEventsOf steps traces → (links : LinkRows) × IsWhole traces links × ((schedule : List ℕ) × IsLeast traces links schedule)

-- the events that follow from the logs of a recording are those of its history
abbrev pub RecordingsAreHistories : Type 0
RecordingsAreHistories = (g : Setting) (recording : Recording) (steps : List Step) → IsHistoryOf g recording steps → (followed : IsFollowed g recording steps) → AreInRange (traces_of g.program followed.followed) → AreEventsOf steps (traces_of g.program followed.followed)

-- every recording of a valid program has a schedule
abbrev pub RecordingsHaveSchedules : Type 0
RecordingsHaveSchedules = (g : Setting) (recording : Recording) → IsValid g.program → 1 ≤ g.fuel → IsRecording g recording → (schedule : List ℕ) × IsScheduleOf g recording schedule

-- the schedule of a recording has a run, and the run is what was recorded: the events of its steps, its outputs, its ends and its
-- last values
abbrev pub SchedulesReplayRecordings : Type 0
SchedulesReplayRecordings = (g : Setting) (recording : Recording) (schedule : List ℕ) → IsValid g.program → 1 ≤ g.fuel → (is : IsRecording g recording) → IsScheduleOf g recording schedule → (m : Machine) × IsReplayOf g recording is.steps schedule m

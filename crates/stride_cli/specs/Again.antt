-- Threads that were run again by logs. Only private clauses cite this module.
use Rattle.std.specs.Prelude.{◌≡◌, ◌≤◌, ℕ, List, Ok}
use Rattle.stride_isa.specs.Limits.{fuel_limit}
use Rattle.stride_isa.specs.Listing.{Listing}
use Rattle.stride_isa.specs.Validity.{IsValid}
use Rattle.interleavings.specs.declared.event.LogEntry.{LogEntry}
use Rattle.interleavings.specs.Following.{Followed, follow_all}
use Rattle.interleavings.specs.History.{Step}
use Rattle.interleavings.specs.Recording.{IsFollowed, IsHistoryOf, IsRecording, Recording}
use Rattle.interleavings.specs.TraceLists.{IsTraces, TraceLists}
use Rattle.event_order.specs.Laws.{traces_of}
use Rattle.stride_cli.specs.Answers.{setting_of}
use Rattle.stride_cli.specs.Inferring.{SchedulesEvents}
use Rattle.stride_cli.specs.Settings.{Limits}

-- the threads of a valid program with some fuel were run again by these logs
pub record IsRunAgain (p : Listing) (fuel : ℕ) (logs : List (List LogEntry)) (traces : TraceLists) : Type 0 where
  pub valid : IsValid p
  pub some : 1 ≤ fuel
  pub most : fuel ≤ fuel_limit
  pub all : List Followed
  pub follows : follow_all p fuel logs ≡ Ok all
  pub traces_are : traces ≡ traces_of p all
  pub kept : IsTraces traces

-- the threads were run again by some logs
abbrev pub HasRunAgain : Listing → ℕ → TraceLists → Type 0
HasRunAgain p fuel traces = (logs : List (List LogEntry)) × IsRunAgain p fuel logs traces

-- the schedule is that of the events of threads that were run again
pub record HasSchedule (p : Listing) (fuel : ℕ) (schedule : List ℕ) : Type 0 where
  pub traces : TraceLists
  pub again : HasRunAgain p fuel traces
  pub scheduled : SchedulesEvents traces schedule

-- the logs are those of a recording of the program
pub record IsLogged (limits : Limits) (p : Listing) (logs : List (List LogEntry)) : Type 0 where
  pub recording : Recording
  pub logs_are : recording.logs ≡ logs
  pub recorded : IsRecording (setting_of limits p) recording

-- the logs are those of what some steps left of the program, by the history of these steps
pub record AreRecorded (limits : Limits) (p : Listing) (logs : List (List LogEntry)) : Type 0 where
  pub recording : Recording
  pub steps : List Step
  pub logs_are : recording.logs ≡ logs
  pub history : IsHistoryOf (setting_of limits p) recording steps
  pub followed : IsFollowed (setting_of limits p) recording steps

-- the threads were run again by such logs
pub record IsRecorded (limits : Limits) (p : Listing) (logs : List (List LogEntry)) (traces : TraceLists) : Type 0 where
  pub logged : AreRecorded limits p logs
  pub again : IsRunAgain p limits.fuel logs traces

-- the threads were run again by the logs of some recording with these limits
abbrev pub WereRecorded : Limits → Listing → TraceLists → Type 0
WereRecorded limits p traces = (logs : List (List LogEntry)) × IsRecorded limits p logs traces

-- the same with some limits
abbrev pub HasRecorded : Listing → TraceLists → Type 0
HasRecorded p traces = (limits : Limits) × WereRecorded limits p traces

-- What a recording is replayed to: the schedule that is inferred from its logs, and the run of that schedule.
use Rattle.std.specs.Prelude.{◌≡◌, ℕ, List, Ok, Some, map}
use Rattle.sc_machine.specs.Machine.{Machine}
use Rattle.sc_machine.specs.Schedule.{ends, last_values, outputs, replayed, thread_numbers}
use Rattle.sc_machine.specs.Transcript.{bytes_of}
use Rattle.interleavings.specs.Following.{Followed, follow_all}
use Rattle.interleavings.specs.History.{Step}
use Rattle.interleavings.specs.Recording.{Recording, Setting, activity_of}
use Rattle.interleavings.specs.RunEvents.{plain, run_events}
use Rattle.linkage.specs.Answers.{IsWhole}
use Rattle.event_order.specs.DirectOrder.{LinkRows}
use Rattle.event_order.specs.Laws.{traces_of}
use Rattle.event_order.specs.Least.{IsLeast}

-- the schedule of a recording: the program's threads follow its logs, nothing about the links of their events is refused, and the
-- schedule is the least of the orders of these events
pub record IsScheduleOf (g : Setting) (recording : Recording) (schedule : List ℕ) : Type 0 where
  pub all : List Followed
  pub follows : follow_all g.program g.fuel recording.logs ≡ Ok all
  pub links : LinkRows
  pub whole : IsWhole (traces_of g.program all) links
  pub least : IsLeast (traces_of g.program all) links schedule

-- the run of the schedule on the sequentially consistent machine is what was recorded, by these steps, and ends in this machine
pub record IsReplayOf (g : Setting) (recording : Recording) (steps : List Step) (schedule : List ℕ) (m : Machine) : Type 0 where
  pub runs : replayed g.program g.fuel schedule ≡ Some m
  -- each thread makes exactly the events that the steps finished, the bounds of its reads aside
  pub events : (t : ℕ) → run_events g.program g.fuel schedule t ≡ map plain (activity_of g steps t).events
  -- it has its recorded output and its recorded end
  pub outputs : outputs m ≡ recording.outputs
  pub ends : ends m ≡ recording.ends
  -- the output is the thread's lines of the transcript
  pub lines : recording.outputs ≡ map (λ t. bytes_of t m.transcript) (thread_numbers g.program)
  -- each cell is left with its recorded last value
  pub last_values : recording.last_values ≡ last_values g.program m

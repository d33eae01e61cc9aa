-- The events of a history as traces.
use Rattle.std.specs.Prelude.{◌≡◌, ℕ, List}
use Rattle.interleavings.specs.History.{Step, after, IsHistory}
use Rattle.interleavings.specs.Recording.{IsAtRest}
use Rattle.interleavings.specs.TraceLists.{TraceLists, events_of}
use Rattle.event_order.specs.Laws.{AreInRange}

-- the traces are the events of a history from their starting values, after which each thread is at rest, and each event is of a
-- cell or a monitor that is there
pub record AreEventsOf (steps : List Step) (traces : TraceLists) : Type 0 where
  pub lawful : IsHistory traces.starts steps
  pub at_rest : (t : ℕ) → IsAtRest ((after traces.starts steps).people t).activity.phase
  pub events : (t : ℕ) → events_of traces t ≡ ((after traces.starts steps).people t).activity.events
  pub range : AreInRange traces

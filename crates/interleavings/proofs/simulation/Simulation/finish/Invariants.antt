use Rattle.interleavings.specs.SimulationShows.{Shows}
use Rattle.interleavings.specs.Recording.{Setting}
use Rattle.interleavings.specs.Driving.{Drive}
use Rattle.interleavings.proofs.Going.{Halfway}
use Rattle.interleavings.proofs.simulation.Simulation.finish.Given as goal

-- the thread has made some of the steps
abbrev pub invariant-loop-step : goal.invariant-loop-step
invariant-loop-step l = (g : Setting) (d : Drive) → Shows g l.fn.self d → Halfway g l.self l.rest l.thread l._step d

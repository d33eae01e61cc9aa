use Rattle.std.proofs.Common.{take}
use Rattle.interleavings.specs.SimulationShows.{Makes}
use Rattle.interleavings.specs.Driving.{advance_all}
use Rattle.interleavings.proofs.simulation.Simulation.follow.Given as goal

-- the members so far were followed
abbrev pub invariant-loop-thread : goal.invariant-loop-thread
invariant-loop-thread l = Makes (λ g. advance_all g (take l.thread-index l.order)) l.fn.self l.self

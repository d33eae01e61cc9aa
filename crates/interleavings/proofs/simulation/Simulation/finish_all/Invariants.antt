use Rattle.std.specs.List.{range_with_len}
use Rattle.interleavings.specs.Driving.{finished_by_all}
use Rattle.interleavings.specs.SimulationShows.{Makes}
use Rattle.interleavings.proofs.simulation.Simulation.finish_all.Given as goal

-- the threads so far have finished
abbrev pub invariant-loop-thread : goal.invariant-loop-thread
invariant-loop-thread l = Makes (λ g. finished_by_all l.rest g (range_with_len 0 l.thread)) l.fn.self l.self

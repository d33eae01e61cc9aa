use Rattle.std.proofs.Common.{◌≡◌, map}
use Rattle.std.specs.List.{range_with_len}
use Rattle.sc_machine.specs.StandingThread.{started_at}
use Rattle.interleavings.proofs.simulation_start.start_threads.Given as goal

-- the threads so far
abbrev pub invariant-loop-number : goal.invariant-loop-number
invariant-loop-number l = l.threads.items ≡ map (started_at l.program l.fuel) (range_with_len 0 l.number)

use Rattle.std.proofs.Common.{map}
use Rattle.thread_rerun.specs.Shows.{AtThread}
use Rattle.thread_rerun.proofs.rerunning.rerun.Given as goal

abbrev pub invariant-loop-thread : goal.invariant-loop-thread
invariant-loop-thread l = AtThread l.program l.fuel (map (λ log. log.items) l.logs.items) l.thread l.rerun

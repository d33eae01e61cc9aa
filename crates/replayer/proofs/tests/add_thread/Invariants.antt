use Rattle.std.proofs.Common.{◌<◌, length}
use Rattle.replayer.proofs.tests.add_thread.Given as goal

abbrev pub invariant-loop-op : goal.invariant-loop-op
invariant-loop-op l = 0 < length l.program.threads

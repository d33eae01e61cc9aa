use Rattle.std.proofs.Common.{◌<◌, length}
use Rattle.stride_isa.proofs.check_tests.add_code.Given as goal

abbrev pub invariant-loop-op : goal.invariant-loop-op
invariant-loop-op l = 0 < length l.program.threads

use Rattle.std.proofs.Math.Path.{fun_ext}
use Rattle.stride_isa.specs.Limits.{monitor_limit}
use Rattle.thread_rerun.proofs.Looping.{zeros}
use Rattle.thread_rerun.proofs.follower.Follower.start.Goals as goal

pub returns-clause-turns : goal.returns-clause-turns
returns-clause-turns c = fun_ext (zeros monitor_limit)

use Rattle.std.proofs.Common.{arith}
use Rattle.interleavings.proofs.Going.{each_goes, each_more}
use Rattle.interleavings.proofs.simulation.Simulation.finish_all.Goals as goal

pub finish-requires-clause-goes : goal.finish-requires-clause-goes
finish-requires-clause-goes c =
    each_goes c.args.self.now c.loop-thread.self c.args.rest c.loop-thread.thread c.loop-thread.invariant c.requires (omega arith)

pub loop-thread-preserved : goal.loop-thread-preserved
loop-thread-preserved c =
    each_more c.args.self.now c.loop-thread.self c.args.rest c.loop-thread.thread c.loop-thread.invariant c.finish.new.self c.in_ok-finish.ensures

use Rattle.interleavings.proofs.Begins.{threads_more}
use Rattle.interleavings.proofs.simulation_start.start_threads.Goals as goal

pub loop-number-preserved : goal.loop-number-preserved
loop-number-preserved c =
    threads_more c.args.program.now c.args.fuel c.loop-number.number c.loop-number.threads.items c.push.new.self.items c.in_ok-thread.thread c.in_ok-push.ensures.items c.loop-number.invariant c.in_ok-thread.ensures

use Rattle.std.proofs.Common.{◌≡◌, arith}
use Rattle.demo.specs.Demo.{rounds_of, thread_count, threads_of, total_rounds}
use Rattle.demo.proofs.ListLemmas.{sum_by-range_more}
use Rattle.demo.proofs.sizes.total_rounds.Goals as goal

pub loop-thread-preserved : goal.loop-thread-preserved
loop-thread-preserved c = record {
  few = omega arith;
  is = omega (arith, sum_by-range_more (rounds_of c.args.number) c.loop-thread.thread);
}

pub returns-clause-is : goal.returns-clause-is
unfolding threads_of total_rounds
returns-clause-is c =
    let e : c.loop-thread.thread ≡ thread_count c.args.number = omega arith in rw e at c.loop-thread.invariant.is

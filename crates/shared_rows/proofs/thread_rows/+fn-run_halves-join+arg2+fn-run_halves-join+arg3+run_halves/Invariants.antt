use Rattle.shared_rows.proofs.thread_rows.+fn-run_halves-join+arg2+fn-run_halves-join+arg3+run_halves.Given as goal

abbrev pub decreases-join+arg2 : goal.decreases-join+arg2
decreases-join+arg2 g l = l.below

abbrev pub decreases-join+arg3 : goal.decreases-join+arg3
decreases-join+arg3 g l = l.below

abbrev pub decreases-run_halves : goal.decreases-run_halves
decreases-run_halves g l = l.depth

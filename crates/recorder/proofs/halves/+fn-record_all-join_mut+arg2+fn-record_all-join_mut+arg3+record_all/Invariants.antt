use Rattle.recorder.proofs.halves.+fn-record_all-join_mut+arg2+fn-record_all-join_mut+arg3+record_all.Given as goal

abbrev pub decreases-join_mut+arg2 : goal.decreases-join_mut+arg2
decreases-join_mut+arg2 g l = l.below

abbrev pub decreases-join_mut+arg3 : goal.decreases-join_mut+arg3
decreases-join_mut+arg3 g l = l.below

abbrev pub decreases-record_all : goal.decreases-record_all
decreases-record_all g l = l.depth

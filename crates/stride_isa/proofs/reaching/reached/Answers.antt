use Rattle.std.proofs.Common.{arith}
use Rattle.stride_isa.proofs.MarksLemmas.{growing_step, whole_table, taken}
use Rattle.stride_isa.proofs.reaching.reached.Goals as goal

pub op-requires-clause-inside : goal.op-requires-clause-inside
op-requires-clause-inside c =
    (taken c.args.program.now c.args.thread c.in-Some.pair c.loop-pair.table.marks.items _ (rw c.in-Some.ensures.items at c.loop-pair.invariant)).0

pub expand-requires-clause-inside : goal.expand-requires-clause-inside
expand-requires-clause-inside c =
    rw c.code_len-size.ensures.count
    (taken c.args.program.now c.args.thread c.in-Some.pair c.loop-pair.table.marks.items _ (rw c.in-Some.ensures.items at c.loop-pair.invariant)).0

pub loop-pair-preserved : goal.loop-pair-preserved
loop-pair-preserved c =
    growing_step c.args.program.now c.args.thread c.in-Some.pair c.loop-pair.table.marks.items _ _ _
    (rw c.in-Some.ensures.items at c.loop-pair.invariant)
    (rw (c.op.ensures.is, c.code_len-size.ensures.count) at c.in_ok-expand.ensures.visits)
    (rw (c.op.ensures.is, c.code_len-size.ensures.count) at c.in_ok-expand.ensures.marked)

pub returns : goal.returns
returns c =
    whole_table c.args.program.now c.args.thread c.loop-pair.table.marks.items c.loop-pair.table.work.items c.loop-pair.invariant
    (omega (arith, c.in_default.ensures.cases, c.loop-pair.table.work.ok.0))

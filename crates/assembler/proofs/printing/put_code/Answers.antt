use Rattle.std.proofs.Common.{arith}
use Rattle.stride_isa.specs.Listing.{code_of}
use Rattle.assembler.proofs.PrintedLines.{row_read, code_more}
use Rattle.assembler.proofs.printing.put_code.Goals as goal

pub loop-at-preserved : goal.loop-at-preserved
loop-at-preserved c =
    let at = c.loop-at.at in
    let code = code_of c.args.program.now c.args.thread in
    let targets = c.in_ok-targets.targets.items in
    let targeted = row_read targets at c.index.result.now _ (omega (arith, c.in_ok-targets.ensures.places)) c.index.ensures (c.in_ok-targets.ensures.marked at (omega (arith, c.in_ok-targets.ensures.places))) in
    code_more c.args.program.now code at c.index.result.now c.op_in.result _ _ _ _ (omega arith) targeted c.op_in.ensures.is c.loop-at.invariant c.in_ok-put_label_line.ensures c.in_ok-put_op.ensures

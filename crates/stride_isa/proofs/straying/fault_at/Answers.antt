use Rattle.std.proofs.Common.{◌+◌, length}
use Rattle.std.proofs.lemmas.Bool.{eq-eqb, eqb-true}
use Rattle.stride_isa.specs.Listing.{code_of}
use Rattle.stride_isa.proofs.StrayingLemmas.{one_marked, two_marked}
use Rattle.stride_isa.proofs.straying.fault_at.Goals as goal

pub returns-in-One : goal.returns-in-One
returns-in-One c =
    let size = length (code_of c.args.program.now c.args.thread) in
    one_marked c.args.program.now c.args.thread c.args.at c.in-One.depth c.args.marks.now.items _ c.requires.thread c.requires.inside (c.requires.named c.args.at c.requires.inside) c.requires.table c.in-One.ensures
    (eqb-true (c.args.at + 1) size) (eq-eqb (c.args.at + 1) size)
    c.straying.result (rw (c.op.ensures.is, c.code_len.ensures.count) at c.straying.ensures)

pub returns-in-Several : goal.returns-in-Several
returns-in-Several c =
    two_marked c.args.program.now c.args.thread c.args.at c.args.marks.now.items c.requires.thread c.requires.table c.in-Several.ensures

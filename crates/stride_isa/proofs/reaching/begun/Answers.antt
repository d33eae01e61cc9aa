use Rattle.std.proofs.Common.{refl}
use Rattle.stride_isa.proofs.MarksLemmas.{growing_begun}
use Rattle.stride_isa.proofs.reaching.begun.Goals as goal

pub returns : goal.returns
returns c =
    growing_begun c.args.program.now c.args.thread _ c.visit.new.self.marks.items c.visit.new.self.work.items refl refl c.requires.some c.in_ok-visit.ensures.marked
    (rw (c.in_ok-unmarked.ensures, c.new.ensures.items, c.code_len-size.ensures.count) at c.in_ok-visit.ensures.visits)

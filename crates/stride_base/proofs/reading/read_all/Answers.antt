use Rattle.std.proofs.Common.{◌≡◌, ◌+◌, ◌++◌, take, length-append, length-take, arith}
use Rattle.std.proofs.lemmas.List.{length-take-le}
use Rattle.stride_base.proofs.SourceLemmas.{ReadSoFar-none, ReadSoFar-more, ReadSoFar-all, ReadSoFar-longer, ReadSoFar-past}
use Rattle.stride_base.proofs.reading.read_all.Goals as goal

pub loop-list-init : goal.loop-list-init
loop-list-init g c =
    (ReadSoFar-none _ _ _ c.new-list.ensures.items, rw c.new-list.ensures.items (omega arith), c.in_ok-buffer.ensures)

pub returns-then-n-eq0-clause-all : goal.returns-then-n-eq0-clause-all
returns-then-n-eq0-clause-all g c =
    let read = c.in_ok-n.ensures in
    ReadSoFar-all c.loop-list.invariant.0 _ _ _ read.taken c.if-n-eq0.true (read.end c.if-n-eq0.true)

pub returns-then-n-left-clause-too_long : goal.returns-then-n-left-clause-too_long
returns-then-n-left-clause-too_long g c = λ _.
    let read = c.in_ok-n.ensures in
    ReadSoFar-longer c.loop-list.invariant.0 _ _ _ _ read.taken read.within (omega arith)

pub returns-then-n-left-clause-past : goal.returns-then-n-left-clause-past
returns-then-n-left-clause-past g c = λ _.
    let read = c.in_ok-n.ensures in
    ReadSoFar-past c.loop-list.invariant.0 _ _ _ _ read.taken read.within
    (omega (arith, c.read.auto.buf, c.min.ensures, length-take (c.min.result + 1) c.deref_mut.result.now))

pub loop-list-preserved : goal.loop-list-preserved
loop-list-preserved g c =
    let read = c.in_ok-n.ensures in
    let joined : c.push_all.new.self.items ≡ c.loop-list.list.items ++ take c.in_ok-n.n c.read.new.buf = c.in_ok-push_all.ensures.items in (
      ReadSoFar-more c.loop-list.invariant.0 _ _ _ _ joined read.taken read.counted,
      rw joined (omega (arith, length-append c.loop-list.list.items (take c.in_ok-n.n c.read.new.buf), length-take-le c.in_ok-n.n c.read.new.buf read.within)),
      c.loop-list.invariant.2,
    )

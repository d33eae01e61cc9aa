use Rattle.std.proofs.Common.{arith}
use Rattle.assembler.proofs.ReadingLemmas.{reading_begins, reading_goes_on}
use Rattle.assembler.proofs.assembling.assemble.Goals as goal

pub loop-bytes-init : goal.loop-bytes-init
loop-bytes-init c =
    (reading_begins _ _ _ c.new-assembly.ensures.step c.new-assembly.ensures.program c.in-Ok.ensures, omega arith)

pub loop-bytes-preserved : goal.loop-bytes-preserved
loop-bytes-preserved c =
    let read = c.in_default-read_line.ensures in
    (reading_goes_on _ _ _ _ _ c.in-Some.bytes.now _ c.loop-bytes.invariant.0 c.in-Some.ensures.split _ _ read.refused read.step read.added read.labels, omega (arith, c.in-Some.ensures.shorter))

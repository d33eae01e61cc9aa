use Rattle.std.proofs.Common.{◌≡◌}
use Rattle.assembler.specs.Lines.{lines}
use Rattle.assembler.proofs.LineLemmas.{lines_from}
use Rattle.assembler.proofs.lines.take_line.Given as goal

abbrev pub invariant-loop-i : goal.invariant-loop-i
invariant-loop-i l = lines_from l.text l.i ≡ lines l.text

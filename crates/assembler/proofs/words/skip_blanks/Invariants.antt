use Rattle.std.proofs.Common.{◌≡◌, drop}
use Rattle.assembler.specs.Words.{plain_words}
use Rattle.assembler.proofs.words.skip_blanks.Given as goal

abbrev pub invariant-loop-i : goal.invariant-loop-i
invariant-loop-i l = plain_words (drop l.i l.line) ≡ plain_words l.line

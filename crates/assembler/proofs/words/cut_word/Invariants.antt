use Rattle.std.proofs.Common.{◌≡◌}
use Rattle.assembler.specs.Words.{front_of}
use Rattle.assembler.proofs.WordLemmas.{word_from, behind_from}
use Rattle.assembler.proofs.words.cut_word.Given as goal

abbrev pub invariant-loop-i : goal.invariant-loop-i
invariant-loop-i l =
    (word_from l.line l.i ≡ (front_of l.line).word) × (behind_from l.line l.i ≡ (front_of l.line).behind)

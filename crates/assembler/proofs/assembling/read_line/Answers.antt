use Rattle.assembler.specs.Words.{words_of}
use Rattle.assembler.proofs.FormLemmas.{form_of_declared}
use Rattle.assembler.proofs.assembling.read_line.Goals as goal

pub add-requires-clause-declared : goal.add-requires-clause-declared
add-requires-clause-declared c = rw c.line_at-line.ensures (form_of_declared (words_of c.args.bytes.now))

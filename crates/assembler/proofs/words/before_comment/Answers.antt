use Rattle.std.proofs.Common.{◌∙◌}
use Rattle.assembler.proofs.WordLemmas.{uncommented-at, uncommented-none}
use Rattle.assembler.proofs.words.before_comment.Goals as goal

pub returns-in-Some : goal.returns-in-Some
returns-in-Some c =
    c.split_at.ensures.front ∙ uncommented-at c.args.line.now c.in-Some.start c.in-Some.ensures.0.high c.in-Some.ensures.0.before c.in-Some.ensures.1

pub returns-in-None : goal.returns-in-None
returns-in-None c = uncommented-none c.args.line.now c.in-None.ensures

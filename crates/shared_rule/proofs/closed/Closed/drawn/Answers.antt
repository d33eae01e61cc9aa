use Rattle.std.proofs.Common.{refl}
use Rattle.interleavings.specs.AtomicStep.{Drawn}
use Rattle.shared_rule.proofs.Ending.{last_got}
use Rattle.shared_rule.proofs.closed.Closed.drawn.Goals as goal

pub word-requires : goal.word-requires
word-requires c = (c.args.self.now.some_word, c.args.self.now.full)

pub returns : goal.returns
returns c = last_got c.args.self.now Drawn 0 c.word.result refl c.word.ensures

use Rattle.interleavings.specs.AtomicStep.{Number}
use Rattle.shared_rule.proofs.Ending.{last_got}
use Rattle.shared_rule.proofs.closed.Closed.number.Goals as goal

pub returns : goal.returns
returns c = last_got c.args.self.now (Number c.args.cell) c.index_of.result c.word.result c.index_of.ensures c.word.ensures

use Rattle.interleavings.specs.AtomicStep.{Value}
use Rattle.shared_rule.proofs.Ending.{last_got}
use Rattle.shared_rule.proofs.closed.Closed.value.Goals as goal

pub returns : goal.returns
returns c = last_got c.args.self.now (Value c.args.cell) c.index_of.result c.word.result c.index_of.ensures c.word.ensures

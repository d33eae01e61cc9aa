use Rattle.shared_rule.specs.Accesses.{word_named}
use Rattle.shared_rule.specs.Passes.{starts_in}
use Rattle.shared_rule.proofs.Accessing.{named_apart, named_there, index_fits, exchanges}
use Rattle.shared_rule.proofs.shared.Shared.compare_exchange.Goals as goal

pub compare_exchange-met-requires : goal.compare_exchange-met-requires
compare_exchange-met-requires c = (c.requires.pass.table, index_fits c.args.self.now c.args.word c.requires.word c.index_of.result c.index_of.ensures, exchanges (starts_in c.args.self.now) c.facts.ensures c.args.self.now.table.shared.table_id.slots c.args.pass.now.id c.args.pass.now.me (word_named c.args.word) c.index_of.result c.index_of.ensures (named_apart c.args.word) (named_there c.args.self.now c.args.word c.requires.word) c.args.old c.args.new c.requires.may)

use Rattle.shared_rule.specs.Passes.{starts_in}
use Rattle.shared_rule.proofs.Accessing.{drawn_fits, draws}
use Rattle.shared_rule.proofs.shared.Shared.draw.Goals as goal

pub fetch_add-requires : goal.fetch_add-requires
fetch_add-requires c = (c.requires.pass.table, drawn_fits c.args.self.now, draws (starts_in c.args.self.now) c.args.self.now.table.shared.table_id.slots c.args.pass.now.id c.args.pass.now.me c.facts.ensures c.requires.nameless c.requires.draws)

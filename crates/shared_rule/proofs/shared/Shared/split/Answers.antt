use Rattle.shared_rule.specs.Passes.{starts_in}
use Rattle.shared_rule.proofs.Accessing.{drawn_fits, split_keeps}
use Rattle.shared_rule.proofs.shared.Shared.split.Goals as goal

pub split_seat-requires : goal.split_seat-requires
split_seat-requires c = (c.requires.pass.table, drawn_fits c.args.self.now, split_keeps (starts_in c.args.self.now) c.args.pass.now.id c.args.pass.now.me.0)

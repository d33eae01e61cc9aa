use Rattle.shared_rule.specs.Passes.{starts_in}
use Rattle.shared_rule.proofs.Accessing.{drawn_fits, join_keeps}
use Rattle.shared_rule.proofs.shared.Shared.gather.Goals as goal

pub join_seat-requires : goal.join_seat-requires
join_seat-requires c = (c.requires.pass.table, c.requires.other.table, c.requires.other.slots, drawn_fits c.args.self.now, join_keeps (starts_in c.args.self.now) c.args.pass.now.id c.args.other.id c.args.pass.now.me.0 c.args.other.me.0 c.requires.idle)

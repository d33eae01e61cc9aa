use Rattle.std.proofs.Common.{sym, subst}
use Rattle.std.specs.Mem.Slots.{slots_items}
use Rattle.atomic_table.specs.Table.{Final, Seen}
use Rattle.shared_rule.specs.Holding.{Holds}
use Rattle.shared_rule.specs.Passes.{starts_in, view_of}
use Rattle.shared_rule.proofs.Ending.{counted_ends, few_names, whole_ends}
use Rattle.shared_rule.proofs.shared.Shared.close.Goals as goal

pub closed_of-requires-clause-few_names : goal.closed_of-requires-clause-few_names
closed_of-requires-clause-few_names c = few_names (starts_in c.args.self) c.args.pass.id (view_of c.args.pass) (slots_items c.close_with.result.words) (slots_items c.close_with.result.slots) c.close_with.ensures.values.2

pub returns-clause-whole : goal.returns-clause-whole
returns-clause-whole c = whole_ends (starts_in c.args.self) c.facts.ensures c.args.pass.id (view_of c.args.pass) c.requires.starts c.closed_of.result (slots_items c.close_with.result.slots)
    (subst (λ w. Final (Seen (Holds (starts_in c.args.self)) c.args.pass.id (view_of c.args.pass)) (slots_items w.words) (slots_items c.close_with.result.slots)) (sym c.closed_of.ensures) c.close_with.ensures.values.2)

pub returns-clause-counted : goal.returns-clause-counted
returns-clause-counted c = counted_ends (starts_in c.args.self) c.facts.ensures c.args.pass.id (view_of c.args.pass) c.requires.starts c.closed_of.result (slots_items c.close_with.result.slots)
    (subst (λ w. Final (Seen (Holds (starts_in c.args.self)) c.args.pass.id (view_of c.args.pass)) (slots_items w.words) (slots_items c.close_with.result.slots)) (sym c.closed_of.ensures) c.close_with.ensures.values.2)

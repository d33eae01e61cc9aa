use Rattle.linkage.proofs.Finds.{window_from}
use Rattle.linkage.proofs.finder.window_of.Goals as goal

pub returns : goal.returns
returns c =
    window_from c.args.row.now c.args.cell c.args.bound c.args.width c.saturating_sub-first.result c.list_span.new.triples.items c.sorted.result c.saturating_sub-first.ensures c.list_span.ensures c.sorted.ensures.members c.sorted.ensures.len

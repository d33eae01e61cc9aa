use Rattle.linkage.proofs.Topping.{topped_start}
use Rattle.linkage.proofs.tops.Tops.start.Goals as goal

pub returns : goal.returns
returns c =
    topped_start c.args.traces.now c.cells.result c.monitors.result (record { writes = c.in_ok-zeros.field-0; entries = c.in_ok-zeros-2.field-0 }) c.cells.ensures.count c.monitors.ensures.count c.in_ok-zeros.ensures c.in_ok-zeros-2.ensures

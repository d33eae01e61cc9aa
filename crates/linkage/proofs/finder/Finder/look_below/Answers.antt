use Rattle.std.proofs.Common.{◌-◌, arith}
use Rattle.linkage.proofs.Finds.{few_window_looks, link_from_window}
use Rattle.linkage.proofs.finder.Finder.look_below.Goals as goal

pub returns-clause-found : goal.returns-clause-found
returns-clause-found g c =
    link_from_window c.args.traces.now c.args.self.now.row c.requires.finder.row c.args.cell c.args.value c.args.bound c.args.width c.in_ok-index.index c.latest.result c.requires.cell c.requires.bound c.in_ok-index.ensures c.latest.ensures.latest

pub returns-clause-looks : goal.returns-clause-looks
returns-clause-looks g c =
    omega (arith, c.latest.ensures.counted, few_window_looks (c.latest.new.steps - c.args.steps.now) _ c.args.width c.requires.width c.in_ok-index.ensures.few c.latest.ensures.looks)

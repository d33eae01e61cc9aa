use Rattle.std.proofs.Common.{◌-◌, arith}
use Rattle.linkage.proofs.Finds.{link_from_index, few_looks}
use Rattle.linkage.proofs.finder.Finder.look_up.Goals as goal

pub returns-clause-found : goal.returns-clause-found
returns-clause-found g c =
    link_from_index c.args.traces.now c.in_ok-index.index c.args.cell c.args.value c.args.bound c.latest-found.result c.in_ok-index.ensures c.latest-found.ensures.latest

pub returns-clause-looks : goal.returns-clause-looks
returns-clause-looks g c =
    omega (arith, c.latest-found.ensures.counted, few_looks (c.latest-found.new.steps - c.args.steps.now) _ c.in_ok-index.ensures.few c.latest-found.ensures.looks)

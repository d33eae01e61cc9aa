use Rattle.std.proofs.lemmas.Result.{on_ok_weaker}
use Rattle.interleavings.proofs.Going.{claims_go, reads_go, exits_go, all_settled}
use Rattle.interleavings.proofs.simulation.Simulation.settle.Goals as goal

pub finish_all-requires : goal.finish_all-requires
finish_all-requires c = claims_go c.args.self.now c.args.self.now c.args.self.now c.args.self.now c.requires

pub finish_all-requires-2 : goal.finish_all-requires-2
finish_all-requires-2 c = reads_go c.args.self.now c.finish_all.new.self c.finish_all.new.self c.finish_all.new.self c.requires c.in_ok-finish_all.ensures

pub finish_all-requires-3 : goal.finish_all-requires-3
finish_all-requires-3 c =
    exits_go c.args.self.now c.finish_all.new.self c.finish_all-2.new.self c.finish_all-2.new.self c.requires c.in_ok-finish_all.ensures c.in_ok-finish_all-2.ensures

pub returns : goal.returns
returns c =
    on_ok_weaker c.finish_all-3.result
    (all_settled c.args.self.now c.finish_all.new.self c.finish_all-2.new.self c.finish_all-3.new.self c.in_ok-finish_all.ensures c.in_ok-finish_all-2.ensures)
    c.finish_all-3.ensures

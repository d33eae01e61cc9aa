use Rattle.interleavings.proofs.Begins.{start_draws, simulation_begun}
use Rattle.interleavings.proofs.simulation_start.start_simulation.Goals as goal

pub draw_names-requires : goal.draw_names-requires
draw_names-requires c = start_draws c.args.program.now c.in_ok-core.core c.threads.result c.in_ok-core.ensures c.threads.ensures.count c.threads.ensures.small

pub returns : goal.returns
returns c =
    simulation_begun (record { program = c.args.program; fuel = c.args.fuel; patience = c.args.patience; threads = c.in_ok-threads.threads; core = c.draw_names.new.core }) c.in_ok-core.core c.threads.result
    c.in_ok-core.ensures c.threads.ensures.count c.threads.ensures.small c.in_ok-draw_names.ensures.shape c.in_ok-draw_names.ensures.shows c.in_ok-threads.ensures

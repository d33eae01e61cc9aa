use Rattle.std.proofs.Common.{map}
use Rattle.replayer.proofs.Left.{left_is}
use Rattle.replayer.proofs.replaying.replay.Goals as goal

pub returns-clause-run : goal.returns-clause-run
returns-clause-run c =
    left_is c.replay_along_turns.ensures.made c.args.program.now c.args.fuel c.args.schedule.now c.in_ok-table.table c.play.new.table
    (map (λ out. out.items) c.in_ok-outputs.outputs.items) c.in_ok-outputs.ends.items c.in_ok-last_values.last_values.items
    c.in_ok-table.ensures.program c.in_ok-table.ensures.fuel c.in_ok-play.ensures c.in_ok-outputs.ensures.outputs c.in_ok-outputs.ensures.ends c.in_ok-last_values.ensures

use Rattle.std.proofs.Common.{arith}
use Rattle.replayer.proofs.Playthrough.{nothing_played, row_played, row_refused}
use Rattle.replayer.proofs.playing.play.Goals as goal

pub loop-place-init : goal.loop-place-init
loop-place-init c = nothing_played c.args.table.now c.requires.table c.requires.ready

pub returns-then-place-end : goal.returns-then-place-end
returns-then-place-end c =
    let inv = c.loop-place.invariant in
    row_refused c.replay_along_turns.ensures.refused c.turns_join.ensures c.args.table.now c.loop-place.table c.turns.new.self c.args.schedule.now c.loop-place.place c.row_end-end.result c.in_ok-taken.taken
    (omega arith) c.row_end-end.ensures.within c.row_end-end.ensures.row inv c.in_ok-taken.ensures.table.0 c.in_ok-taken.ensures.table.1 (c.in_ok-taken.ensures.taken inv.machine inv.shows) (omega arith)

pub loop-place-preserved : goal.loop-place-preserved
loop-place-preserved c =
    let inv = c.loop-place.invariant in
    row_played c.turns_join.ensures c.args.table.now c.loop-place.table c.turns.new.self c.args.schedule.now c.loop-place.place c.row_end-end.result c.in_ok-taken.taken
    (omega arith) c.row_end-end.ensures.within c.row_end-end.ensures.row inv c.in_ok-taken.ensures.table.0 c.in_ok-taken.ensures.table.1 (c.in_ok-taken.ensures.taken inv.machine inv.shows)

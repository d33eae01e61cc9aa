use Rattle.replayer.proofs.Begins.{players_more, lines_more}
use Rattle.replayer.proofs.starting.start_players.Goals as goal

pub loop-thread-preserved : goal.loop-thread-preserved
loop-thread-preserved c = (
  rw c.in_ok-push.ensures.items (players_more c.args.program.now c.args.fuel c.loop-thread.thread c.loop-thread.players.items _ c.loop-thread.invariant.0 c.in_ok-player.ensures.thread),
  lines_more c.args.program.now c.args.fuel c.loop-thread.thread c.args.transcript.now.items c.loop-thread.transcript.items c.start.new.transcript.items c.loop-thread.invariant.1 c.in_ok-player.ensures.printed,
)

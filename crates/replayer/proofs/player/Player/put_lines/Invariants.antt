use Rattle.std.proofs.Common.{◌≡◌, ◌++◌, length, true}
use Rattle.sc_machine.specs.Transcript.{tagged}
use Rattle.replayer.proofs.player.Player.put_lines.Given as goal

-- what was put and what is left are the start and the whole
abbrev pub invariant-loop-rest : goal.invariant-loop-rest
invariant-loop-rest l = l.transcript.items ++ tagged l.self.thread.number true l.rest ≡ l.fn.transcript.items ++ tagged l.self.thread.number true l.printed

abbrev pub decreases-loop-rest : goal.decreases-loop-rest
decreases-loop-rest l = length l.rest

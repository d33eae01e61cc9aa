use Rattle.std.proofs.Common.{◌≡◌, ◌+◌, drop}
use Rattle.replayer.specs.FirstLine.{line_length}
use Rattle.replayer.proofs.player.line_len.Given as goal

-- the line goes on from here, where all bytes before are of it
abbrev pub invariant-loop-at : goal.invariant-loop-at
invariant-loop-at l = l.at + line_length (drop l.at l.bytes) ≡ line_length l.bytes

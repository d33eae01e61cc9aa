use Rattle.std.proofs.Common.{◌≡◌, ◌++◌}
use Rattle.std.specs.List.{flat_map, range_with_len}
use Rattle.sc_machine.specs.ThreadStep.{start_thread}
use Rattle.sc_machine.specs.Schedule.{settled_lines}
use Rattle.sc_machine.specs.Transcript.{transcript_bytes}
use Rattle.replayer.specs.Players.{ArePlayers}
use Rattle.replayer.proofs.starting.start_players.Given as goal

-- the players so far, and what they printed
abbrev pub invariant-loop-thread : goal.invariant-loop-thread
invariant-loop-thread l =
    ArePlayers l.program l.fuel l.thread l.players.items
    × (l.transcript.items ≡ l.fn.transcript.items ++ transcript_bytes (flat_map (λ t. settled_lines l.program l.fuel t start_thread) (range_with_len 0 l.thread)))

use Rattle.std.proofs.Common.{◌≡◌, ◌++◌, length, map}
use Rattle.std.specs.Vec.Iter.{into_iter_items, into_iter_len}
use Rattle.sc_machine.specs.ThreadStep.{end_of}
use Rattle.replayer.specs.Players.{outputs_of, thread_of}
use Rattle.replayer.proofs.results.left_by.Given as goal

-- the outputs and the ends so far, and those of the players that are left
abbrev pub invariant-loop-player : goal.invariant-loop-player
invariant-loop-player l = record {
  outputs : map (λ out. out.items) l.outputs.items ++ outputs_of (into_iter_items l.player-iterator) ≡ outputs_of l.fn.players.items;
  ends : l.ends.items ++ map end_of (map thread_of (into_iter_items l.player-iterator)) ≡ map end_of (map thread_of l.fn.players.items);
  counted : into_iter_len l.player-iterator ≡ length (into_iter_items l.player-iterator);
}

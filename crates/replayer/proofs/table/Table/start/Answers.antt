use Rattle.std.proofs.Common.{◌∙◌, ◌++◌, ap, sym, length, refl}
use Rattle.std.specs.List.{flat_map, range_with_len}
use Rattle.stride_isa.specs.Limits.{monitor_limit}
use Rattle.sc_machine.specs.ThreadStep.{start_thread}
use Rattle.sc_machine.specs.Schedule.{settled_lines}
use Rattle.sc_machine.specs.Transcript.{transcript_bytes}
use Rattle.sc_machine.specs.Machine.{Machine}
use Rattle.replayer.proofs.Begins.{none_held, player_at, players_long, players_settle}
use Rattle.replayer.proofs.table.Table.start.Goals as goal

pub returns-clause-table : goal.returns-clause-table
returns-clause-table c =
    let are = c.in_ok-players.ensures.players in
    record {
      count = players_long c.args.program.now c.args.fuel _ c.in_ok-players.players.items are;
      room = c.starting_cells.ensures.room;
      monitors = refl;
      each = player_at c.args.program.now c.args.fuel _ c.in_ok-players.players.items are;
    }

pub returns-clause-shows : goal.returns-clause-shows
returns-clause-shows c =
    let begun = c.starts_settle.ensures c.args.program.now c.args.fuel in
    record {
      threads = ap (λ (m : Machine). m.threads) begun ∙ sym (players_settle c.args.program.now c.args.fuel _ c.in_ok-players.players.items c.in_ok-players.ensures.players);
      cells = λ cell below. c.starting_cells.ensures.starts cell below ∙ ap (λ (m : Machine). m.cells cell) (sym begun);
      holders = λ monitor below. none_held monitor_limit monitor ∙ ap (λ (m : Machine). m.holders monitor) (sym begun);
      transcript = c.in_ok-players.ensures.printed
          ∙ ap (λ xs. xs ++ transcript_bytes (flat_map (λ t. settled_lines c.args.program.now c.args.fuel t start_thread) (range_with_len 0 (length c.args.program.now.threads)))) c.new-transcript.ensures.items
          ∙ ap (λ (m : Machine). transcript_bytes m.transcript) (sym begun);
    }

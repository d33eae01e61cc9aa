use Rattle.std.proofs.Common.{refl, rules}
use Rattle.std.proofs.lemmas.Option.{slice_get_read}
use Rattle.std.proofs.lemmas.Result.{IfOk-weaker}
use Rattle.replayer.proofs.Turning.{no_turns, turns_shown}
use Rattle.replayer.proofs.table.Table.turns.Goals as goal

pub returns-in_default-clause-taken : goal.returns-in_default-clause-taken
returns-in_default-clause-taken c = λ m shows. no_turns c.args.self.now c.args.thread c.args.limit m (search rules) shows

pub returns-clause-taken : goal.returns-clause-taken
returns-clause-taken c = λ m shows. IfOk-weaker c.turns.result _ _
    (λ taken went. turns_shown c.turns_in_a_row.ensures c.args.self.now c.args.thread c.args.limit taken c.in-Some.player.now c.turns.new.self c.turns.new.cells c.turns.new.holders c.turns.new.transcript went c.requires (slice_get_read c.args.self.now.players.items _ c.args.thread c.in-Some.player.now refl c.in-Some.ensures.item.3.0 c.in-Some.ensures.value) m shows)
    c.turns.ensures

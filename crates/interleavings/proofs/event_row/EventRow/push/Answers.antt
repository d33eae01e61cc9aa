use Rattle.std.proofs.Common.{arith}
use Rattle.std.proofs.lemmas.Result.{MatchResult-from_err}
use Rattle.interleavings.proofs.EventRows.{events_stay, pushed_kept, pushed_shows}
use Rattle.interleavings.proofs.event_row.EventRow.push.Goals as goal

pub returns-in_err-push-clause-err : goal.returns-in_err-push-clause-err
returns-in_err-push-clause-err c =
    MatchResult-from_err c.from_residual-in_err-push.result _ _ c.from_residual-in_err-push.ensures.0
    (λ _. rw (c.in_err-push.ensures.items, c.in_ok-keep_exchange.ensures.ok, ← c.self.view_is) (events_stay _ _ _ c.self.invariant))

pub invariant_of-self-2 : goal.invariant_of-self-2
invariant_of-self-2 c =
    rw (c.in_ok-push.ensures.items, c.in_ok-keep_exchange.ensures.ok, c.kept_of.ensures)
    (pushed_kept c.self.inside.updates.items c.self.inside.kept.items c.args.event c.len-at.result (omega arith) c.self.invariant)

pub returns-clause-ok : goal.returns-clause-ok
returns-clause-ok c =
    rw (c.in_ok-push.ensures.items, c.in_ok-keep_exchange.ensures.ok, c.kept_of.ensures, ← c.self.view_is)
    (pushed_shows c.self.inside.updates.items c.self.inside.kept.items c.args.event c.len-at.result (omega arith) c.self.invariant)

use Rattle.std.proofs.Common.{◌+◌, ◌∙◌, ap, sym, subst}
use Rattle.std.proofs.lemmas.List.{length_push}
use Rattle.event_order.specs.Fronts.{done_of, waiters_of}
use Rattle.event_order.specs.ThreadSets.{Has}
use Rattle.event_order.specs.Tables.{counted, rows_of}
use Rattle.event_order.proofs.Nexts.{nexts_more}
use Rattle.event_order.proofs.Waiters.{waiters_push}
use Rattle.event_order.proofs.front.first_nexts.Goals as goal

pub loop-thread-preserved : goal.loop-thread-preserved
loop-thread-preserved c = rw c.in_ok-push.ensures.items (record {
  count = length_push c.loop-thread.next.items c.judge-now.result ∙ ap (λ n. n + 1) c.loop-thread.invariant.count;
  each = nexts_more c.args.deeds.now (counted (rows_of c.args.waiting.now.rows.items)) (done_of c.args.done.now) c.loop-thread.next.items c.loop-thread.thread c.judge-now.result c.loop-thread.invariant.count c.loop-thread.invariant.each c.judge-now.ensures;
  noted = waiters_push c.loop-thread.next.items (rows_of c.loop-thread.waiters.items) (rows_of c.note.new.waiters.items) c.judge-now.result c.note.ensures.kept (λ slot is. subst (Has (waiters_of (rows_of c.note.new.waiters.items) slot)) (sym c.loop-thread.invariant.count) (c.note.ensures.noted slot is)) c.loop-thread.invariant.noted;
})

use Rattle.std.proofs.Common.{◌≡◌, ◌∙◌, ap}
use Rattle.std.proofs.lemmas.List.{length_push}
use Rattle.event_order.proofs.Rows.{pushed_default}
use Rattle.event_order.proofs.front.zeros.Goals as goal

pub loop-preserved : goal.loop-preserved
loop-preserved c = rw c.in_ok-push.ensures.items (record {
  count = length_push c.loop.zeros.items 0 ∙ ap (λ n. Rattle.std.proofs.Common.◌+◌ n 1) c.loop.invariant.count;
  zeros = λ i. pushed_default c.loop.zeros.items 0 i ∙ c.loop.invariant.zeros i;
})

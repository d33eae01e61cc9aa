use Rattle.std.proofs.Common.{inr}
use Rattle.linkage.proofs.Placed.{true_not_false}
use Rattle.linkage.proofs.PlacedWrites.{fit_full}
use Rattle.linkage.proofs.placing.place_writes.Goals as goal
use Rattle.linkage.proofs.placing.place_writes.Goals.{else-place_events-via-then-place_events+else-is_full, else-place_events-via-else-place_events}

pub returns-else-place_events-clause-placing : goal.returns-else-place_events-clause-placing
returns-else-place_events-clause-placing g c =
    elim c.else-place_events.branch [
      | else-place_events-via-then-place_events+else-is_full w ↦
          inr (λ none. true_not_false _ (w.is_full.ensures.1 (fit_full c.args.traces.now c.args.spans.now c.requires c.place_events.new.placing w.if-place_events.ensures.placing none)) w.if-is_full.false)
      | else-place_events-via-else-place_events w ↦ inr w.if-place_events.ensures.placing
    ]

use Rattle.std.proofs.Common.{ℕ, ◌<◌, length, inl, inr, sym, ◌∙◌, subst}
use Rattle.interleavings.specs.declared.traces.Place.{Place}
use Rattle.event_order.proofs.Rounds.{least_more}
use Rattle.event_order.proofs.turning.least_of.Goals.{then-is_before, else-is_before}
use Rattle.event_order.proofs.turning.least_of.Goals as goal

pub loop-i-preserved : goal.loop-i-preserved
loop-i-preserved c =
    let ring = c.args.ring.now in
    let none : Place = record { thread = 0; place = 0 } in
    let P : ℕ → Type 0 = λ n. n < length ring in
    elim c.if-is_before.branch [
      | then-is_before w ↦ record {
        least = least_more ring c.loop-i.i c.loop-i.least c.if-is_before.least none c.loop-i-test.true c.loop-i.invariant.there c.loop-i.invariant.least (inl (sym c.is_before.ensures ∙ w.if-is_before.true, w.least-is));
        there = subst P (sym w.least-is) c.loop-i-test.true;
      }
      | else-is_before w ↦ record {
        least = least_more ring c.loop-i.i c.loop-i.least c.if-is_before.least none c.loop-i-test.true c.loop-i.invariant.there c.loop-i.invariant.least (inr (sym c.is_before.ensures ∙ w.if-is_before.false, w.least-is));
        there = subst P (sym w.least-is) c.loop-i.invariant.there;
      }
    ]

use Rattle.std.proofs.Common.{◌≡◌, ◌+◌, ◌-◌, refl, arith}
use Rattle.std.proofs.lemmas.Bool.{false≢true}
use Rattle.linkage.proofs.Halving.{halved_step, split_low, split_high, split_met}
use Rattle.linkage.proofs.latest_write.latest.Goals as goal

pub loop-low-preserved-then-is_up_to : goal.loop-low-preserved-then-is_up_to
loop-low-preserved-then-is_up_to g c = record {
  split = split_low c.args.index.now c.loop-low.low c.loop-low.high c.args.cell c.args.value c.args.bound c.loop-low.found c.len-high.ensures.ascending c.loop-low.invariant.split _ c.at-member.result c.hit-found.result (omega arith) (omega (arith, c.loop-low-test.true)) c.at-member.ensures.item (c.if-is_up_to.ensures.0 refl) c.hit-found.ensures;
  counted = omega (arith, c.at-member.ensures.counted);
  halved =
      let one : (c.loop-low.steps - c.args.steps.now) + 1 ≡ c.at-member.new.steps - c.args.steps.now = omega (arith, c.at-member.ensures.counted) in
      rw (← one) (halved_step _ _ _ _ (omega (arith, c.loop-low-test.true)) (omega arith) c.loop-low.invariant.halved);
}

pub loop-low-preserved : goal.loop-low-preserved
loop-low-preserved g c = record {
  split = split_high c.args.index.now c.loop-low.low c.loop-low.high c.args.cell c.args.value c.args.bound c.loop-low.found c.len-high.ensures.ascending c.loop-low.invariant.split _ c.at-member.result (omega arith) (omega (arith, c.loop-low-test.true)) c.at-member.ensures.item (λ up. false≢true (c.if-is_up_to.ensures.1 up));
  counted = omega (arith, c.at-member.ensures.counted);
  halved =
      let one : (c.loop-low.steps - c.args.steps.now) + 1 ≡ c.at-member.new.steps - c.args.steps.now = omega (arith, c.at-member.ensures.counted) in
      rw (← one) (halved_step _ _ _ _ (omega (arith, c.loop-low-test.true)) (omega arith) c.loop-low.invariant.halved);
}

pub returns-clause-latest : goal.returns-clause-latest
returns-clause-latest g c = split_met c.args.index.now c.loop-low.low c.loop-low.high c.args.cell c.args.value c.args.bound c.loop-low.found c.len-high.ensures.ascending c.loop-low.invariant.split (omega (arith, c.loop-low-test.false))

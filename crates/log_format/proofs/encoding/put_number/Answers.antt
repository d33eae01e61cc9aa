use Rattle.std.proofs.Common.{◌∙◌, arith, refl}
use Rattle.std.proofs.lemmas.Result.{on_ok_weaker}
use Rattle.log_format.proofs.Groups.{goes_on, is_written}
use Rattle.log_format.proofs.encoding.put_number.Goals as goal

pub loop-higher-init : goal.loop-higher-init
loop-higher-init c = (9, omega arith, refl)

pub loop-higher-preserved : goal.loop-higher-preserved
loop-higher-preserved c = rw c.in_ok-push.ensures.items (goes_on c.args.out.now.items c.args.number c.loop-higher.out.items c.loop-higher.higher c.loop-higher-test.true c.loop-higher.invariant)

pub returns : goal.returns
returns c = on_ok_weaker c.push-2.result (λ e. e ∙ is_written c.args.out.now.items c.args.number c.loop-higher.out.items c.loop-higher.higher c.loop-higher-test.false c.loop-higher.invariant) c.push-2.ensures.items

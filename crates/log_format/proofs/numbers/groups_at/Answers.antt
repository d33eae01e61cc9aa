use Rattle.std.proofs.Common.{◌≤◌, arith}
use Rattle.std.proofs.Math.Nat.{pow-le-pow_right}
use Rattle.std.proofs.lemmas.Result.{err_from_is_err_and}
use Rattle.log_format.proofs.Raising.{raising_byte, raising_fails, raising_last, raising_none, raising_on, raising_small}
use Rattle.log_format.proofs.numbers.groups_at.Goals as goal

pub returns-in_err-byte : goal.returns-in_err-byte
returns-in_err-byte c =
    let p = err_from_is_err_and c.from_residual.result c.from_residual.ensures.1 in
    rw (p.1, p.2) (raising_fails _ _ _ _ _ _ c.in_err-byte.field-0.0 c.loop.invariant c.in_err-byte.ensures)

pub returns-then-byte-eq0 : goal.returns-then-byte-eq0
returns-then-byte-eq0 c = raising_none _ _ _ _ _ _ _ _ c.loop-test.true c.loop.invariant c.in_ok-byte.ensures c.if-byte-eq0.true

pub overflow_mul-result : goal.overflow_mul-result
overflow_mul-result c =
    omega (arith, raising_small _ _ _ _ _ _ c.from.result c.loop.invariant c.loop-test.true (omega (arith, c.from.ensures, c.if-byte-lt128.true)))

pub overflow_add-result : goal.overflow_add-result
overflow_add-result c =
    omega (arith, raising_small _ _ _ _ _ _ c.from.result c.loop.invariant c.loop-test.true (omega (arith, c.from.ensures, c.if-byte-lt128.true)))

pub returns-then-byte-lt128 : goal.returns-then-byte-lt128
returns-then-byte-lt128 c =
    rw c.from.ensures (raising_last _ _ _ _ _ _ _ _ c.loop-test.true c.loop.invariant c.in_ok-byte.ensures (omega (arith, c.if-byte-eq0.false)) c.if-byte-lt128.true)

pub overflow_mul-number : goal.overflow_mul-number
overflow_mul-number c =
    omega (arith, raising_small _ _ _ _ _ _ c.from-in-loop.result c.loop.invariant c.loop-test.true (omega (arith, c.from-in-loop.ensures, raising_byte _ _ _ _ _ _ _ _ c.loop.invariant c.in_ok-byte.ensures)))

pub overflow_add-number : goal.overflow_add-number
overflow_add-number c =
    omega (arith, raising_small _ _ _ _ _ _ c.from-in-loop.result c.loop.invariant c.loop-test.true (omega (arith, c.from-in-loop.ensures, raising_byte _ _ _ _ _ _ _ _ c.loop.invariant c.in_ok-byte.ensures)))

pub overflow_mul-weight : goal.overflow_mul-weight
overflow_mul-weight c =
    let few : c.loop.counter ≤ 7 = omega (arith, c.loop-test.true) in
    omega (arith, c.loop.invariant.power, pow-le-pow_right {n = 128} (omega arith) few)

pub loop-preserved : goal.loop-preserved
loop-preserved c = raising_on _ _ _ _ _ _ _ _ _ c.loop-test.true c.loop.invariant c.in_ok-byte.ensures (omega (arith, c.if-byte-lt128.false)) c.from-in-loop.ensures

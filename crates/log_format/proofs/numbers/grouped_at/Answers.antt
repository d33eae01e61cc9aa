use Rattle.std.proofs.Common.{arith}
use Rattle.log_format.specs.Bundles.{IsBytes}
use Rattle.log_format.proofs.Bytes.{IsBytes-drop, IsBytes-take}
use Rattle.log_format.proofs.Groups.{groups_below}
use Rattle.log_format.proofs.numbers.grouped_at.Goals as goal

pub overflow_mul-result : goal.overflow_mul-result
overflow_mul-result c =
    let within : IsBytes c.args.bytes.now = λ i. omega (arith, c.type_inv.bytes i) in
    let small = groups_below _ _ _ _ _ c.in_ok-higher.ensures (omega arith) (IsBytes-take _ _ (IsBytes-drop 1 _ within)) in
    omega (arith, small)

pub overflow_add-result : goal.overflow_add-result
overflow_add-result c =
    let within : IsBytes c.args.bytes.now = λ i. omega (arith, c.type_inv.bytes i) in
    let small = groups_below _ _ _ _ _ c.in_ok-higher.ensures (omega arith) (IsBytes-take _ _ (IsBytes-drop 1 _ within)) in
    omega (arith, small, within 0)

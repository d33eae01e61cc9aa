use Rattle.std.proofs.Common.{◌<◌, ◌^◌, w16, arith}
use Rattle.std.proofs.lemmas.Nat.Bits.{bit_at-trailing_zeros}
use Rattle.event_order.proofs.thread_set.ThreadSet.first.Goals as goal

pub returns-else-bits-eq0 : goal.returns-else-bits-eq0
returns-else-bits-eq0 c =
    let some : 0 < c.args.self.now.bits = (let not = c.if-bits-eq0.false in omega (arith, not)) in
    let small : c.args.self.now.bits < 2 ^ 16 = omega arith in
    let found = bit_at-trailing_zeros w16 c.args.self.now.bits some small in
    ((found.0, found.1), λ thread less has. let none = found.2 thread less in let one = has.1 in omega arith)

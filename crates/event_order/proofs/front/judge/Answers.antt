use Rattle.std.proofs.Common.{refl, sym, inl}
use Rattle.event_order.proofs.front.judge.Goals as goal

pub returns-in-Some-missing : goal.returns-in-Some-missing
returns-in-Some-missing c =
    let found = c.in-Some-missing.ensures.waits c.in-Some-missing.slot refl in
    (record { deed = c.in-Some.deed; there = sym c.in-Some.ensures; needs = found.0 }, inl found.1)

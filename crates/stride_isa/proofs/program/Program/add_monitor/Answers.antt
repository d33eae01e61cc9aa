use Rattle.std.proofs.Common.{◌<◌, ◌∙◌, arith, sym, length}
use Rattle.stride_isa.proofs.KeptLemmas.{kept_monitor}
use Rattle.stride_isa.proofs.program.Program.add_monitor.Goals as goal

pub invariant_of-self-2 : goal.invariant_of-self-2
invariant_of-self-2 c =
    let told = rw (c.deref.ensures.value, c.deref-2.ensures.value, c.as_slice.ensures.bytes) at c.is_named.ensures in
    let fits : length c.self.inside.monitors.items < 64 = omega arith in
    rw c.in_ok-push.ensures.items
    (kept_monitor _ c.self.inside.firsts.items c.self.inside.cells c.self.inside.instructions c.args.name c.self.invariant c.as_slice.ensures.spelled (sym told ∙ c.if-is_named.false) fits)

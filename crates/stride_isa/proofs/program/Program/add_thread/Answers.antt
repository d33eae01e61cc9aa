use Rattle.std.proofs.Common.{arith}
use Rattle.std.proofs.lemmas.List.{length-map, map-append}
use Rattle.stride_isa.proofs.KeptLemmas.{kept_thread}
use Rattle.stride_isa.proofs.program.Program.add_thread.Goals as goal

pub invariant_of-self-2 : goal.invariant_of-self-2
invariant_of-self-2 c =
    rw (c.in_ok-push.ensures.items, map-append, c.new-code.ensures.items)
    (kept_thread _ c.self.inside.firsts.items c.self.inside.cells c.self.inside.instructions c.self.invariant (simp length-map (omega arith)))

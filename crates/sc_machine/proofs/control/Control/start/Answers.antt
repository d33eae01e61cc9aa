use Rattle.sc_machine.proofs.Inside.{is_run_at_start}
use Rattle.sc_machine.proofs.control.Control.start.Goals as goal

pub invariant_of-result : goal.invariant_of-result
invariant_of-result c =
    rw (c.new.ensures.program, c.new.ensures.thread, c.new.ensures.fuel)
    (is_run_at_start _ _ _ _ c.empty.ensures.depth c.requires.thread c.new.ensures.code c.requires.some c.requires.limit)

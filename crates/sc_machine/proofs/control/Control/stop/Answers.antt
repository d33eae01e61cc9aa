use Rattle.std.proofs.Common.{arith}
use Rattle.sc_machine.proofs.Inside.{enough_for}
use Rattle.sc_machine.proofs.RanOn.{length-operands}
use Rattle.sc_machine.proofs.control.Control.stop.Goals as goal

pub stop_of-requires-clause-enough : goal.stop_of-requires-clause-enough
stop_of-requires-clause-enough c =
    enough_for _ _ _ _ _ _ c.op.ensures.is (length-operands _ _ (omega arith)) (c.op.ensures.fine _ c.self.invariant.reaches)

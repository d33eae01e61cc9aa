use Rattle.std.proofs.Common.{arith}
use Rattle.sc_machine.proofs.Inside.{enough_for, room_for}
use Rattle.sc_machine.proofs.RanOn.{length-operands}
use Rattle.sc_machine.proofs.running.completed.Goals as goal

pub finish-requires-clause-enough : goal.finish-requires-clause-enough
finish-requires-clause-enough c =
    enough_for _ _ _ _ _ _ c.op.ensures.is (length-operands _ _ (omega arith)) (c.op.ensures.fine _ c.requires.reaches)

pub finish-requires-clause-room : goal.finish-requires-clause-room
finish-requires-clause-room c =
    room_for _ _ _ _ _ _ c.op.ensures.is (length-operands _ _ (omega arith)) (c.op.ensures.fine _ c.requires.reaches)

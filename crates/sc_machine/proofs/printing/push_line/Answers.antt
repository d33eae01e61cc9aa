use Rattle.std.proofs.Common.{arith}
use Rattle.sc_machine.proofs.Digits.{length-word-le}
use Rattle.sc_machine.proofs.printing.push_line.Goals as goal

pub write_digits-begin-requires : goal.write_digits-begin-requires
write_digits-begin-requires c = (length-word-le c.args.word (omega arith), omega arith)

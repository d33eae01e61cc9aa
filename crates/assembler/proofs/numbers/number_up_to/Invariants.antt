use Rattle.std.proofs.Common.{◌≡◌, ◌+◌, ◌<◌, ◌^◌, drop}
use Rattle.assembler.specs.Numbers.{number}
use Rattle.assembler.proofs.NumberLemmas.{number_from}
use Rattle.assembler.proofs.numbers.number_up_to.Given as goal

abbrev pub invariant-loop-byte : goal.invariant-loop-byte
invariant-loop-byte l = (number_from (l.last + 1) l.value (drop l.byte-index l.digits) ≡ number (l.last + 1) l.digits) × (l.value < 2 ^ 64)

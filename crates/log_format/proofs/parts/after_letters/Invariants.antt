use Rattle.std.proofs.Common.{◌≡◌, drop}
use Rattle.log_format.specs.Reading.{letters_at}
use Rattle.log_format.proofs.parts.after_letters.Given as goal

-- what is still wanted, read from here, gives what all gave
abbrev pub invariant-loop-want : goal.invariant-loop-want
invariant-loop-want l = letters_at (drop l.want-index l.wanted) l.rest ≡ letters_at l.wanted l.bytes

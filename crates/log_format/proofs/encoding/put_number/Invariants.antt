use Rattle.log_format.proofs.Groups.{IsWriting}
use Rattle.log_format.proofs.encoding.put_number.Given as goal

-- what was written, and the groups that are not written yet, are the number's
abbrev pub invariant-loop-higher : goal.invariant-loop-higher
invariant-loop-higher l = IsWriting l.fn.out.items l.number l.out.items l.higher

abbrev pub decreases-loop-higher : goal.decreases-loop-higher
decreases-loop-higher l = l.higher

use Rattle.log_format.proofs.Raising.{IsRaising}
use Rattle.log_format.proofs.numbers.groups_at.Given as goal

-- the groups so far are lower ones, and what is left read from here raises them to what all gave
abbrev pub invariant-loop : goal.invariant-loop
invariant-loop l = IsRaising l.wrong l.bytes l.counter l.number l.weight l.rest

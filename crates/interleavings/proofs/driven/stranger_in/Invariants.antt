use Rattle.std.proofs.Common.{◌<◌, ℕ, get_or}
use Rattle.interleavings.proofs.driven.stranger_in.Given as goal

-- the members so far name threads
abbrev pub invariant-loop-place : goal.invariant-loop-place
invariant-loop-place l = (k : ℕ) → k < l.place → get_or l.order k 0 < l.threads

use Rattle.std.proofs.Common.{◌≡◌, ◌<◌, ℕ, length, get_or}
use Rattle.interleavings.specs.declared.activity.Activity.{Activity}
use Rattle.interleavings.specs.History.{newcomer}
use Rattle.interleavings.proofs.simulation_start.newcomers.Given as goal

-- so many threads that have done nothing
abbrev pub invariant-loop-who : goal.invariant-loop-who
invariant-loop-who l = (length l.people.items ≡ l._who) × ((who : ℕ) (d : Activity) → who < l._who → get_or l.people.items who d ≡ newcomer.activity)

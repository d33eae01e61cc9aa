use Rattle.std.proofs.Common.{ℕ, refl, subst, arith}
use Rattle.linkage.specs.AllOf.{TurnZero, AreStartingTurns}
use Rattle.linkage.proofs.AllOfLists.{starts_more}
use Rattle.linkage.proofs.Frontier.{same_numbered}
use Rattle.linkage.proofs.gathered.starting_turns.Goals as goal

pub loop-monitor-preserved : goal.loop-monitor-preserved
loop-monitor-preserved c =
    rw c.in_ok-push.ensures.items
    (starts_more TurnZero c.loop-monitor.monitor c.loop-monitor.turns.items (record { owner = c.loop-monitor.monitor; number = 0; value = tt }) refl refl (λ item none own. same_numbered item _ own none refl) c.loop-monitor.invariant)

pub returns : goal.returns
returns c =
    let P : ℕ → Type 0 = λ monitors. AreStartingTurns monitors c.loop-monitor.turns.items in
    subst P (omega (arith, c.loop-monitor-test.false)) c.loop-monitor.invariant
